-- What a program keeps: its numbers are in range, procedures do not call themselves, chains of calls are short, and
-- `break` stands in loops alone (Plump 2012, section 4: procedures are macros that are not recursive).
use Rattle.std.specs.Prelude.{◌≡◌, ℕ, ◌<◌, ◌≤◌, List, [], ◌∷◌, ◌++◌, length, Some, slice_get, Contains}
use Rattle.gp_syntax.specs.Run.{Command, Call, Seq, If, Try, Loop, Or, Skip, Fail, Break, Procedure, Program}

-- the numbers of the rule sets, and of the procedures, that a command calls
abbrev pub calls_in : Command → List ℕ
calls_in (Call c) = c ∷ []
calls_in (Seq p q) = calls_in p ++ calls_in q
calls_in (If k p q) = calls_in k ++ calls_in p ++ calls_in q
calls_in (Try k p q) = calls_in k ++ calls_in p ++ calls_in q
calls_in (Loop p) = calls_in p
calls_in (Or p q) = calls_in p ++ calls_in q
calls_in Skip = []
calls_in Fail = []
calls_in Break = []
calls_in (Procedure k) = []

abbrev pub procedures_in : Command → List ℕ
procedures_in (Call c) = []
procedures_in (Seq p q) = procedures_in p ++ procedures_in q
procedures_in (If k p q) = procedures_in k ++ procedures_in p ++ procedures_in q
procedures_in (Try k p q) = procedures_in k ++ procedures_in p ++ procedures_in q
procedures_in (Loop p) = procedures_in p
procedures_in (Or p q) = procedures_in p ++ procedures_in q
procedures_in Skip = []
procedures_in Fail = []
procedures_in Break = []
procedures_in (Procedure k) = k ∷ []

-- the conditions of `if` and `try` in a command
abbrev pub conditions_in : Command → List Command
conditions_in (Call c) = []
conditions_in (Seq p q) = conditions_in p ++ conditions_in q
conditions_in (If k p q) = k ∷ (conditions_in k ++ conditions_in p ++ conditions_in q)
conditions_in (Try k p q) = k ∷ (conditions_in k ++ conditions_in p ++ conditions_in q)
conditions_in (Loop p) = conditions_in p
conditions_in (Or p q) = conditions_in p ++ conditions_in q
conditions_in Skip = []
conditions_in Fail = []
conditions_in Break = []
conditions_in (Procedure k) = []

-- the bodies of Main and of the procedures
abbrev pub bodies : Program → List Command
bodies program = program.main ∷ program.procedures

-- the body of the one procedure calls the other
pub record CallsProcedure (program : Program) (j k : ℕ) : Type 0 where
  pub body : Command
  pub is_body : slice_get program.procedures j ≡ Some body
  pub calls : Contains (procedures_in body) k

-- each procedure of the list calls the next one
abbrev pub IsChain : Program → List ℕ → Type 0
IsChain program [] = Unit {0}
IsChain program (k ∷ []) = Unit {0}
IsChain program (j ∷ k ∷ ks) = CallsProcedure program j k × IsChain program (k ∷ ks)

-- the procedure reaches the other through calls
pub data ReachesProcedure (program : Program) (j : ℕ) : ℕ → Type 0 where
  directly : {k : ℕ} → CallsProcedure program j k → ReachesProcedure program j k
  further : {k l : ℕ} → ReachesProcedure program j k → CallsProcedure program k l → ReachesProcedure program j l

-- The command may break: it is `break`, or a call of a procedure whose body may break, or has a part that may break. A
-- loop never may.
pub data MayBreak (program : Program) : Command → Type 0 where
  breaks : MayBreak program Break
  seq_first : {p q : Command} → MayBreak program p → MayBreak program (Seq p q)
  seq_second : {p q : Command} → MayBreak program q → MayBreak program (Seq p q)
  if_condition : {k p q : Command} → MayBreak program k → MayBreak program (If k p q)
  if_then : {k p q : Command} → MayBreak program p → MayBreak program (If k p q)
  if_else : {k p q : Command} → MayBreak program q → MayBreak program (If k p q)
  try_condition : {k p q : Command} → MayBreak program k → MayBreak program (Try k p q)
  try_then : {k p q : Command} → MayBreak program p → MayBreak program (Try k p q)
  try_else : {k p q : Command} → MayBreak program q → MayBreak program (Try k p q)
  or_first : {p q : Command} → MayBreak program p → MayBreak program (Or p q)
  or_second : {p q : Command} → MayBreak program q → MayBreak program (Or p q)
  procedure : {k : ℕ} {body : Command} → slice_get program.procedures k ≡ Some body → MayBreak program body → MayBreak program (Procedure k)

pub record IsScoped (program : Program) : Type 0 where
  pub calls : (body : Command) (c : ℕ) → Contains (bodies program) body → Contains (calls_in body) c → c < length program.sets
  pub procedures : (body : Command) (k : ℕ) → Contains (bodies program) body → Contains (procedures_in body) k → k < length program.procedures
  pub rules : (set : List ℕ) (r : ℕ) → Contains program.sets set → Contains set r → r < length program.rules
  pub no_recursion : (k : ℕ) → ReachesProcedure program k k → ⊥
  pub short_chains : (ks : List ℕ) → IsChain program ks → length ks ≤ 64
  pub main : MayBreak program program.main → ⊥
  pub conditions : (body k : Command) → Contains (bodies program) body → Contains (conditions_in body) k → MayBreak program k → ⊥

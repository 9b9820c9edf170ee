-- What may be wrong with the names and calls of a program text, in the order in which it is asked (Plump 2012, section
-- 4: procedures are not recursive; Bak 2015: local declarations, `break`).
use Rattle.std.specs.Prelude.{◌≡◌, ◌⊎◌, ℕ, nat_lt, ◌+◌, ◌<◌, ◌||◌, not, Bool, false, if◌then◌else◌, List, [], ◌∷◌, ◌++◌, map, length, Option, Some, None, option_map, is_some, slice_get, Contains}
use Rattle.std.specs.Option.{option_or}
use Rattle.gp_values.specs.Names.{Name, has_name}
use Rattle.gp_syntax.specs.Run as meant
use Rattle.gp_syntax.specs.Scoped.{bodies, conditions_in, ReachesProcedure, IsChain, MayBreak}
use Rattle.gp_scope.specs.declared.fault.ScopeFault.{ScopeFault}
use Rattle.gp_scope.specs.declared.fault.ScopeFault.TheVariants as answers
use Rattle.gp_scope.specs.Outline.{NamedCommand, Call, Named, Seq, If, Try, Loop, Or, Skip, Fail, Break, Outline, nothing, rule, procedure, is_main}
use Rattle.gp_scope.specs.Names.{Scope, meaning_in, rule_of, procedure_of, Body, all_bodies_in_text}
use Rattle.gp_scope.specs.Resolved.{ResolvedBody, resolved_bodies, others, program_with}

pub data Fault : Type 0 where
  NoMain : Fault
  TwoMains : Fault
  TwoRules : Name → Fault
  Unknown : Name → Fault
  Recursive : Name → Fault
  DeepCalls : Name → Fault
  StrayBreak : Fault

-- ---- names

-- Main is declared outside all procedures
abbrev pub declares_main : Outline → Bool
declares_main nothing = false
declares_main (rule d os) = declares_main os
declares_main (procedure n local body os) = is_main n || declares_main os

-- how often Main is declared, at any place
abbrev pub mains_in : Outline → ℕ
mains_in nothing = 0
mains_in (rule d os) = mains_in os
mains_in (procedure n local body os) = (if is_main n then 1 else 0) + mains_in local + mains_in os

-- the first name, in text order, that stood before among the same declarations; behind those that were seen
abbrev pub doubled_behind : List Name → Outline → Option Name
doubled_behind seen nothing = None
doubled_behind seen (rule d os) = if has_name seen d.name then Some d.name else doubled_behind (seen ++ d.name ∷ []) os
doubled_behind seen (procedure n local body os) =
    if has_name seen n then Some n else option_or (doubled_behind [] local) (doubled_behind (seen ++ n ∷ []) os)

-- the first name that is told, from the front
abbrev pub first_told : {A : Type 0} → (A → Option Name) → List A → Option Name
first_told f [] = None
first_told f (x ∷ xs) = option_or (f x) (first_told f xs)

abbrev pub unless : Bool → Name → Option Name
unless passes n = if passes then None else Some n

-- the first name that a command calls, and that means no rule, or no procedure, where it stands
abbrev pub unknown_in : Scope → NamedCommand → Option Name
unknown_in s (Call names) = first_told (λ n. unless (is_some (rule_of (meaning_in s n))) n) names
unknown_in s (Named n) = unless (is_some (procedure_of (meaning_in s n))) n
unknown_in s (Seq p q) = option_or (unknown_in s p) (unknown_in s q)
unknown_in s (If k p q) = option_or (unknown_in s k) (option_or (unknown_in s p) (unknown_in s q))
unknown_in s (Try k p q) = option_or (unknown_in s k) (option_or (unknown_in s p) (unknown_in s q))
unknown_in s (Loop p) = unknown_in s p
unknown_in s (Or p q) = option_or (unknown_in s p) (unknown_in s q)
unknown_in s Skip = None
unknown_in s Fail = None
unknown_in s Break = None

abbrev pub unknown_name : Outline → Option Name
unknown_name os = first_told (λ (b : Body). unknown_in b.scope b.command) (all_bodies_in_text os)

-- the first of the faults of names
unfoldable pub fault_of_names : Outline → Option Fault
fault_of_names os =
    if not (declares_main os) then Some NoMain
    else (if nat_lt 1 (mains_in os) then Some TwoMains
    else option_or (option_map TwoRules (doubled_behind [] os)) (option_map Unknown (unknown_name os)))

-- ---- calls, where no name is at fault

-- the program without its rules, which no call of a procedure depends on
abbrev pub calls_of : Outline → meant.Program
calls_of os = program_with os []

-- the first number with the property
pub record IsFirst (P : ℕ → Type 0) (k : ℕ) : Type 0 where
  pub holds : P k
  pub none_before : (j : ℕ) → j < k → P j → ⊥

abbrev pub IsNameOf : Outline → ℕ → Name → Type 0
IsNameOf os k n = slice_get (map (λ (b : ResolvedBody). b.name) (others (resolved_bodies os))) k ≡ Some n

-- the procedure reaches itself through calls
abbrev pub IsRecursive : meant.Program → ℕ → Type 0
IsRecursive program k = ReachesProcedure program k k

-- a chain of calls that begins at the procedure has more than 64 of them, itself counted
abbrev pub IsDeep : meant.Program → ℕ → Type 0
IsDeep program k = (ks : List ℕ) × (IsChain program (k ∷ ks) × (64 < length (k ∷ ks)))

-- Main, or a condition in some body, may break
abbrev pub HasStrayBreak : meant.Program → Type 0
HasStrayBreak program =
    MayBreak program program.main ⊎ ((body : meant.Command) × (k : meant.Command) × (Contains (bodies program) body × Contains (conditions_in body) k × MayBreak program k))

-- the fault of a program text
pub data IsFault (os : Outline) : Fault → Type 0 where
  of_names : {f : Fault} → fault_of_names os ≡ Some f → IsFault os f
  recursive : {k : ℕ} {n : Name} → fault_of_names os ≡ None → IsFirst (IsRecursive (calls_of os)) k → IsNameOf os k n → IsFault os (Recursive n)
  deep_calls : {k : ℕ} {n : Name} → fault_of_names os ≡ None → ((j : ℕ) → IsRecursive (calls_of os) j → ⊥) → IsFirst (IsDeep (calls_of os)) k → IsNameOf os k n →
      IsFault os (DeepCalls n)
  stray_break : fault_of_names os ≡ None → ((j : ℕ) → IsRecursive (calls_of os) j → ⊥) → ((j : ℕ) → IsDeep (calls_of os) j → ⊥) → HasStrayBreak (calls_of os) →
      IsFault os StrayBreak

-- what an answer says; memory that is refused says nothing
abbrev pub told : ScopeFault → Option Fault
told answers.NoMain = Some NoMain
told answers.TwoMains = Some TwoMains
told (answers.TwoRules n) = Some (TwoRules n)
told (answers.Unknown n) = Some (Unknown n)
told (answers.Recursive n) = Some (Recursive n)
told (answers.DeepCalls n) = Some (DeepCalls n)
told answers.StrayBreak = Some StrayBreak
told answers.NoMemory = None

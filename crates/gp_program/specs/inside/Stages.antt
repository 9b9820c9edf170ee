-- What the tree of all tokens is read as.
use Rattle.std.specs.Prelude.{◌≡◌, ◌≤◌, List, [], ◌∷◌, length, Option, Some, None, Result, Ok, Err}
use Rattle.gp_memory.specs.Free.{Free}
use Rattle.gp_tokens.specs.declared.token.Token.{Token}
use Rattle.gp_tokens.specs.Reading.{reader_of}
use Rattle.gp_syntax.specs.declared.tree.Ast.{Ast}
use Rattle.gp_expressions.specs.declared.ranged.Ranged.{Ranged}
use Rattle.gp_program.specs.declared.parse.ParseFault.{ParseFault}
use Rattle.gp_program.specs.declared.parse.ParseFault.TheVariants as faults
use Rattle.gp_program.specs.Programs.{program}

-- what was read, where nothing is left behind it
abbrev pub all_read : {A : Type 0} → Option (A × List Token) → Option A
all_read (Some (x, [])) = Some x
all_read (Some (x, t ∷ ts)) = None
all_read None = None

abbrev pub read_by : List Token → Option (Ranged Ast)
read_by tokens = all_read (reader_of (program (length tokens)) tokens)

-- the answer is the tree of all tokens, or a place where there is none
abbrev pub ReadsTree : List Token → Result (Ranged Ast) ParseFault → Type 0
ReadsTree tokens (Ok x) = read_by tokens ≡ Some x
ReadsTree tokens (Err (faults.TooDeep k)) = ⊥
ReadsTree tokens (Err (faults.Syntax k)) = (read_by tokens ≡ None) × (k ≤ length tokens)
ReadsTree tokens (Err (faults.NumberRange k)) = ⊥
ReadsTree tokens (Err faults.NoMemory) = Free

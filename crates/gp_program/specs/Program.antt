-- The tree of a program's tokens, and their first fault.
use Rattle.std.specs.Prelude.{◌≡◌, ℕ, ◌+◌, ◌≤◌, if◌then◌else◌, nat_eq, List, [], ◌∷◌, length, Some, None, Result, Ok, Err}
use Rattle.gp_memory.specs.Free.{Free}
use Rattle.gp_tokens.specs.declared.token.Token.{Token}
use Rattle.gp_tokens.specs.Grammar.{shape_of}
use Rattle.gp_program.specs.Depth.{IsTooDeep, IsShallow}
use Rattle.gp_syntax.specs.declared.tree.Ast.{Ast}
use Rattle.gp_expressions.specs.declared.ranged.Ranged.{Ranged}
use Rattle.gp_program.specs.declared.parse.ParseFault.{ParseFault}
use Rattle.gp_program.specs.declared.parse.ParseFault.TheVariants as faults
use Rattle.gp_program.specs.Programs.{program}

-- These tokens, with nothing behind them, are a program, and this is its tree with the offset of its first numeral that is
-- out of range. There is as much room as there are tokens, and each bracket and each sign that takes room is a token.
abbrev pub IsProgram : List Token → Ranged Ast → Type 0
IsProgram tokens x = shape_of (program (length tokens)) tokens [] x

-- how many tokens stand before the first that begins at this offset
abbrev pub place_of_start : ℕ → List Token → ℕ
place_of_start start [] = 0
place_of_start start (t ∷ ts) = if nat_eq t.start start then 0 else place_of_start start ts + 1

-- a program in which no numeral is out of range
abbrev pub IsTree : List Token → Ast → Type 0
IsTree tokens ast = IsProgram tokens (record { tree = ast; past = None })

-- a program, and the token of its first numeral that is out of range
pub record IsPastRange (tokens : List Token) (k : ℕ) : Type 0 where
  pub tree : Ast
  pub start : ℕ
  pub shape : IsProgram tokens (record { tree = tree; past = Some start })
  pub place : k ≡ place_of_start start tokens

-- no program
pub record IsNoProgram (tokens : List Token) (k : ℕ) : Type 0 where
  pub none : (x : Ranged Ast) → IsProgram tokens x → ⊥
  pub place : k ≤ length tokens

-- The answer is the tree of the tokens, or their first fault; want of memory may come at any tokens.
abbrev pub ParsesProgram : List Token → Result Ast ParseFault → Type 0
ParsesProgram tokens (Ok ast) = IsShallow tokens × IsTree tokens ast
ParsesProgram tokens (Err (faults.TooDeep k)) = IsTooDeep tokens k
ParsesProgram tokens (Err (faults.Syntax k)) = IsShallow tokens × IsNoProgram tokens k
ParsesProgram tokens (Err (faults.NumberRange k)) = IsShallow tokens × IsPastRange tokens k
ParsesProgram tokens (Err faults.NoMemory) = Free

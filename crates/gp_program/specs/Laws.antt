-- What holds of programs' tokens.
use Rattle.std.specs.Prelude.{◌≡◌, ◌≢◌, ℕ, List, [], Result, Err}
use Rattle.gp_tokens.specs.declared.token.Token.{Token}
use Rattle.gp_syntax.specs.declared.tree.Ast.{Ast}
use Rattle.gp_expressions.specs.declared.ranged.Ranged.{Ranged}
use Rattle.gp_program.specs.declared.parse.ParseFault.{ParseFault}
use Rattle.gp_program.specs.declared.parse.ParseFault.TheVariants as faults
use Rattle.gp_tokens.specs.Grammar.{shape_of}
use Rattle.gp_program.specs.Programs.{program}
use Rattle.gp_program.specs.Program.{IsProgram, ParsesProgram}

-- a program at some room is one at as much room as there are tokens
abbrev pub ProgramsHaveRoom : Type 0
ProgramsHaveRoom = (room : ℕ) (tokens : List Token) (x : Ranged Ast) → shape_of (program room) tokens [] x → IsProgram tokens x

-- tokens have at most one tree
abbrev pub TokensHaveOneTree : Type 0
TokensHaveOneTree = (tokens : List Token) (x y : Ranged Ast) → IsProgram tokens x → IsProgram tokens y → x ≡ y

-- all tokens have a tree or a fault
abbrev pub TokensHaveAnAnswer : Type 0
TokensHaveAnAnswer = (tokens : List Token) → (r : Result Ast ParseFault) × (r ≢ Err faults.NoMemory) × ParsesProgram tokens r

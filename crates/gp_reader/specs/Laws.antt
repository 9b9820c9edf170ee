-- What holds of program texts.
use Rattle.std.specs.Prelude.{◌≡◌, ◌⊎◌, ℕ, List}
use Rattle.gp_syntax.specs.declared.tree.Ast.{Ast}
use Rattle.gp_syntax.specs.Run.{Program}
use Rattle.gp_reader.specs.declared.fault.ProgramFault.{ProgramFault}
use Rattle.gp_reader.specs.declared.fault.ProgramFault.TheVariants as faults
use Rattle.gp_reader.specs.Program.{HasTree, IsTreelessText, IsProgramText, IsFaultyText}

-- A text has a tree, or a fault of tokens, nesting, syntax or numerals.
abbrev pub TextsHaveATreeOrAFault : Type 0
TextsHaveATreeOrAFault = (bytes : List ℕ) → ((t : Ast) × HasTree bytes t) ⊎ ((e : ProgramFault) × IsTreelessText bytes e)

-- A text has at most one tree.
abbrev pub TextsHaveOneTree : Type 0
TextsHaveOneTree = (bytes : List ℕ) (t u : Ast) → HasTree bytes t → HasTree bytes u → t ≡ u

-- A text with a tree has no such fault.
abbrev pub TreesHaveNoFault : Type 0
TreesHaveNoFault = (bytes : List ℕ) (t : Ast) (e : ProgramFault) → HasTree bytes t → IsTreelessText bytes e → ⊥

-- A text without a fault is a program's.
abbrev pub TextsHaveAnAnswer : Type 0
TextsHaveAnAnswer = (bytes : List ℕ) → ((e : ProgramFault) → IsFaultyText bytes e → ⊥) → (p : Program) × IsProgramText bytes p

-- A text has at most one program.
abbrev pub TextsHaveOneProgram : Type 0
TextsHaveOneProgram = (bytes : List ℕ) (p q : Program) → IsProgramText bytes p → IsProgramText bytes q → p ≡ q

-- A text with a program has no fault.
abbrev pub TextsHaveNoFault : Type 0
TextsHaveNoFault = (bytes : List ℕ) (p : Program) (e : ProgramFault) → IsProgramText bytes p → IsFaultyText bytes e → ⊥

-- both are that the tokens are no program
pub record AreSyntax (e f : ProgramFault) : Type 0 where
  pub one : ℕ
  pub other : ℕ
  pub one_is : e ≡ faults.Syntax one
  pub other_is : f ≡ faults.Syntax other

-- A text has at most one fault, but for the line of Syntax.
abbrev pub TextsHaveOneFault : Type 0
TextsHaveOneFault = (bytes : List ℕ) (e f : ProgramFault) → IsFaultyText bytes e → IsFaultyText bytes f → (e ≡ f) ⊎ AreSyntax e f

-- What holds of the canonical text of a text's tree: it is read again, and means the same.
use Rattle.std.specs.Prelude.{◌≡◌, ◌↔◌, ℕ, List, Ok}
use Rattle.gp_tokens.specs.declared.token.Token.{Token}
use Rattle.gp_tokens.specs.Lexed.{tokens_of}
use Rattle.gp_syntax.specs.declared.tree.Ast.{Ast}
use Rattle.gp_syntax.specs.Run.{Program}
use Rattle.gp_program.specs.Depth.{IsShallow}
use Rattle.gp_program.specs.Program.{IsTree}
use Rattle.gp_reader.specs.declared.fault.ProgramFault.{ProgramFault}
use Rattle.gp_reader.specs.Program.{HasTree, IsProgramText, IsFaultyText}
use Rattle.gp_fmt.specs.Pieces.{AreTokens}
use Rattle.gp_fmt.specs.Canonical.{pieces_of, canonical_text}

-- What a canonical text is cut into, and what is read from it.
pub record IsReadAgain (ast : Ast) : Type 0 where
  pub tokens : List Token
  pub cut : tokens_of (canonical_text ast) ≡ Ok tokens
  pub are : AreTokens (pieces_of ast) tokens
  pub shallow : IsShallow tokens
  pub is_tree : IsTree tokens ast

-- The canonical text of a text's tree is cut into the tokens of that tree, and they have that tree.
abbrev pub CanonicalTextsAreRead : Type 0
CanonicalTextsAreRead = (text : List ℕ) (ast : Ast) → HasTree text ast → IsReadAgain ast

-- It has the program of the text, or its fault.
pub record CanonicalTextsMeanTheSame : Type 0 where
  pub program : (text : List ℕ) (ast : Ast) (p : Program) → HasTree text ast → IsProgramText text p ↔ IsProgramText (canonical_text ast) p
  pub fault : (text : List ℕ) (ast : Ast) (f : ProgramFault) → HasTree text ast → IsFaultyText text f ↔ IsFaultyText (canonical_text ast) f

-- And it is its own canonical text.
abbrev pub CanonicalTextsStay : Type 0
CanonicalTextsStay = (text : List ℕ) (ast again : Ast) → HasTree text ast → HasTree (canonical_text ast) again → canonical_text again ≡ canonical_text ast

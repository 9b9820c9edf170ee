-- The canonical text of the tree of a program: its tokens, with one space between two of them but where none stands, and
-- each declaration outside all procedures on one line.
use Rattle.std.specs.Prelude.{ℕ, List, [], ◌∷◌, ◌++◌, codes}
use Rattle.std.specs.List.{flat_map}
use Rattle.gp_tokens.specs.declared.token.Kind.TheVariants as k
use Rattle.gp_syntax.specs.declared.tree.Ast.{Ast}
use Rattle.gp_syntax.specs.declared.tree.Decl.{Decl}
use Rattle.gp_syntax.specs.declared.tree.Decl.TheOpen.{Decl-F}
use Rattle.gp_syntax.specs.declared.tree.Decl.TheFolds.{fold-Decl}
use Rattle.gp_fmt.specs.declared.piece.Piece.{Piece}
use Rattle.gp_fmt.specs.declared.piece.Piece.TheVariants as p
use Rattle.gp_fmt.specs.Spaces.{spaced}
use Rattle.gp_fmt.specs.Commands.{command}
use Rattle.gp_fmt.specs.Rules.{rule}

-- ["[" {Decl} "]"]: brackets without declarations leave no trace in the tree
abbrev pub locals : List (List Piece) → List Piece
locals [] = []
locals (d ∷ ds) = p.Sign k.OpenBracket ∷ flat_map (λ x. x) (d ∷ ds) ++ p.Sign k.CloseBracket ∷ []

abbrev pub declaration_step : Decl-F (List Piece) → List Piece
declaration_step (Decl-F.Procedure name ds body) = p.Name name ∷ p.Sign k.Equal ∷ locals ds ++ command body
declaration_step (Decl-F.Rule r) = rule r

unfoldable pub declaration : Decl → List Piece
declaration = fold-Decl (List Piece) declaration_step

-- the tokens, in order
abbrev pub pieces_of : Ast → List Piece
pieces_of ast = flat_map declaration ast.declarations

abbrev pub line : Decl → List ℕ
line d = spaced (declaration d) ++ codes "\n"

abbrev pub canonical_text : Ast → List ℕ
canonical_text ast = flat_map line ast.declarations

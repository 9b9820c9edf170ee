-- The tokens of rules.
use Rattle.std.specs.Prelude.{Bool, true, false, List, [], ◌∷◌, ◌++◌, Option, Some, None}
use Rattle.std.specs.List.{flat_map}
use Rattle.gp_tokens.specs.declared.keyword.Keyword.{Keyword}
use Rattle.gp_tokens.specs.declared.keyword.Keyword.TheVariants as words
use Rattle.gp_tokens.specs.declared.token.Kind.TheVariants as k
use Rattle.gp_values.specs.Names.{Name}
use Rattle.gp_syntax.specs.declared.expression.Cond.{Cond}
use Rattle.gp_syntax.specs.declared.tree.VariableGroup.{VariableGroup}
use Rattle.gp_syntax.specs.declared.tree.NodeDecl.{NodeDecl}
use Rattle.gp_syntax.specs.declared.tree.EdgeDecl.{EdgeDecl}
use Rattle.gp_syntax.specs.declared.tree.GraphDecl.{GraphDecl}
use Rattle.gp_syntax.specs.declared.tree.RuleDecl.{RuleDecl}
use Rattle.gp_fmt.specs.declared.piece.Piece.{Piece}
use Rattle.gp_fmt.specs.declared.piece.Piece.TheVariants as p
use Rattle.gp_fmt.specs.Expressions.{in_parentheses, label, condition, type_word}
use Rattle.gp_fmt.specs.Commands.{names, names_behind, in_braces}

-- Var {"," Var} ":" Type
abbrev pub variable_group : VariableGroup → List Piece
variable_group g = p.Name g.first ∷ names_behind g.rest ++ p.Sign k.Colon ∷ type_word g.variable_type ∷ []

-- [Vars {";" Vars}]
abbrev pub variables : List VariableGroup → List Piece
variables [] = []
variables (g ∷ gs) = variable_group g ++ flat_map (λ h. p.Sign k.Semicolon ∷ variable_group h) gs

-- ["(" word ")"]
abbrev pub flag : Keyword → Bool → List Piece
flag word false = []
flag word true = in_parentheses (p.Word word ∷ [])

abbrev pub node : NodeDecl → List Piece
node n = in_parentheses (p.Name n.name ∷ flag words.Root n.root ++ p.Sign k.Comma ∷ label n.label n.mark)

abbrev pub edge : EdgeDecl → List Piece
edge e = in_parentheses (p.Name e.name ∷ flag words.Bidirectional e.bidirectional ++ p.Sign k.Comma ∷ p.Name e.source ∷ p.Sign k.Comma ∷ p.Name e.target ∷ p.Sign k.Comma ∷ label e.label e.mark)

-- "[" {Node} "|" {Edge} "]"
abbrev pub graph : GraphDecl → List Piece
graph g = p.Sign k.OpenBracket ∷ flat_map node g.nodes ++ p.Sign k.Bar ∷ flat_map edge g.edges ++ p.Sign k.CloseBracket ∷ []

-- ["where" Cond]
abbrev pub where_part : Option (Cond Name (Option Name)) → List Piece
where_part None = []
where_part (Some c) = p.Word words.Where ∷ condition c

abbrev pub rule : RuleDecl → List Piece
rule r =
    p.Name r.name ∷ in_parentheses (variables r.variables) ++ graph r.left ++ p.Sign k.Arrow ∷ graph r.right
    ++ p.Word words.Interface ∷ p.Sign k.Equal ∷ in_braces (names r.interface) ++ where_part r.condition

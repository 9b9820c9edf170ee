-- The tokens of an expression, of a label and of a condition, with parentheses just where they are needed.
use Rattle.std.specs.Prelude.{ℕ, suc, ℤ, pos, negsuc, Bool, true, false, ◌||◌, nat_lt, nat_le, if◌then◌else◌, List, [], ◌∷◌, ◌++◌, Option, Some, None}
use Rattle.std.specs.List.{flat_map}
use Rattle.gp_tokens.specs.declared.keyword.Keyword.{Keyword}
use Rattle.gp_tokens.specs.declared.keyword.Keyword.TheVariants as words
use Rattle.gp_tokens.specs.declared.token.Kind.TheVariants as k
use Rattle.gp_values.specs.Names.{Name}
use Rattle.gp_syntax.specs.declared.kinds.VariableType.{VariableType}
use Rattle.gp_syntax.specs.declared.kinds.VariableType.TheVariants as types
use Rattle.gp_syntax.specs.declared.kinds.Comparison.{Comparison}
use Rattle.gp_syntax.specs.declared.kinds.Comparison.TheVariants as comparisons
use Rattle.gp_syntax.specs.declared.expression.Signed.{Signed}
use Rattle.gp_syntax.specs.declared.expression.SumSign.{SumSign}
use Rattle.gp_syntax.specs.declared.expression.SumSign.TheVariants as sums
use Rattle.gp_syntax.specs.declared.expression.ProductSign.{ProductSign}
use Rattle.gp_syntax.specs.declared.expression.ProductSign.TheVariants as products
use Rattle.gp_syntax.specs.declared.expression.Expr.{Expr}
use Rattle.gp_syntax.specs.declared.expression.Expr.TheOpen.{Expr-F}
use Rattle.gp_syntax.specs.declared.expression.Expr.TheFolds.{fold-Expr}
use Rattle.gp_syntax.specs.declared.expression.Cond.{Cond}
use Rattle.gp_syntax.specs.declared.expression.Cond.TheOpen.{Cond-F}
use Rattle.gp_syntax.specs.declared.expression.Cond.TheFolds.{fold-Cond}
use Rattle.gp_fmt.specs.declared.piece.Piece.{Piece}
use Rattle.gp_fmt.specs.declared.piece.Piece.TheVariants as p

-- ---- parentheses

-- The tokens of a part of a text, and how tightly its own operator binds: the loosest is 0.
pub record Part : Type 0 where
  pub level : ℕ
  pub pieces : List Piece

abbrev pub in_parentheses : List Piece → List Piece
in_parentheses pieces = p.Sign k.OpenParenthesis ∷ pieces ++ p.Sign k.CloseParenthesis ∷ []

abbrev pub in_parentheses_if : Bool → List Piece → List Piece
in_parentheses_if needed pieces = if needed then in_parentheses pieces else pieces

-- a member of a chain of this level: in parentheses where its own operator is of the same level or looser
abbrev pub member : ℕ → Part → List Piece
member level x = in_parentheses_if (nat_le x.level level) x.pieces

-- an operand of a sign of this level that stands before it: in parentheses where its own operator is looser
abbrev pub operand : ℕ → Part → List Piece
operand level x = in_parentheses_if (nat_lt x.level level) x.pieces

-- a chain of one operator, which has this level
abbrev pub chain : Piece → ℕ → Part → List Part → Part
chain sign level x xs = record { level = level; pieces = member level x ++ flat_map (λ y. sign ∷ member level y) xs }

-- ---- expressions: `:` binds loosest, then `.`, then `+` and `-`, then `*` and `/`, then a unary minus

abbrev pub join_level : ℕ
join_level = 0

abbrev pub dot_level : ℕ
dot_level = 1

abbrev pub sum_level : ℕ
sum_level = 2

abbrev pub product_level : ℕ
product_level = 3

abbrev pub minus_level : ℕ
minus_level = 4

-- what has no operator of its own
abbrev pub alone : List Piece → Part
alone pieces = record { level = 5; pieces = pieces }

abbrev pub numeral : ℤ → List Piece
numeral (pos n) = p.Number n ∷ []
numeral (negsuc n) = p.Negation ∷ p.Number (suc n) ∷ []

-- "indeg" "(" Item ")", and its like
abbrev pub applied : Keyword → Name → Part
applied word name = alone (p.Word word ∷ in_parentheses (p.Name name ∷ []))

abbrev pub is_numeral : List Piece → Bool
is_numeral (p.Number n ∷ []) = true
is_numeral _ = false

-- a numeral from 0 up stands in parentheses, since a minus directly before it would be its own
abbrev pub negated : Part → Part
negated x = record { level = minus_level; pieces = p.Negation ∷ in_parentheses_if (nat_lt x.level minus_level || is_numeral x.pieces) x.pieces }

abbrev pub sum_sign : SumSign → Piece
sum_sign sums.Plus = p.Sign k.Plus
sum_sign sums.Minus = p.Sign k.Minus

abbrev pub product_sign : ProductSign → Piece
product_sign products.Times = p.Sign k.Star
product_sign products.Over = p.Sign k.Slash

-- a sum or a product: each further operand behind its sign
abbrev pub signed_chain : {S : Type 0} → (S → Piece) → ℕ → Part → List (Signed S Part) → Part
signed_chain {S} sign level x ys = record { level = level; pieces = member level x ++ flat_map (λ (y : Signed S Part). sign y.sign ∷ member level y.operand) ys }

abbrev pub expression_step : Expr-F Name Part → Part
expression_step (Expr-F.Number z) = alone (numeral z)
expression_step (Expr-F.Text characters) = alone (p.String characters ∷ [])
expression_step (Expr-F.Variable x) = alone (p.Name x ∷ [])
expression_step (Expr-F.InDegree n) = applied words.Indegree n
expression_step (Expr-F.OutDegree n) = applied words.Outdegree n
expression_step (Expr-F.Length x) = applied words.Length x
expression_step Expr-F.Empty = alone (p.Word words.Empty ∷ [])
expression_step (Expr-F.Negated x) = negated x
expression_step (Expr-F.Sum x ys) = signed_chain sum_sign sum_level x ys
expression_step (Expr-F.Product x ys) = signed_chain product_sign product_level x ys
expression_step (Expr-F.Dot x ys) = chain (p.Sign k.Dot) dot_level x ys
expression_step (Expr-F.Join x ys) = chain (p.Sign k.Colon) join_level x ys

unfoldable pub part_of_expression : Expr Name → Part
part_of_expression = fold-Expr Name Part expression_step

abbrev pub expression : Expr Name → List Piece
expression e = (part_of_expression e).pieces

-- ["#" Word]
abbrev pub mark : Option Name → List Piece
mark None = []
mark (Some word) = p.Sign k.Hash ∷ p.Name word ∷ []

abbrev pub label : Expr Name → Option Name → List Piece
label e m = expression e ++ mark m

-- ---- conditions: `or` binds loosest, then `and`, then `not`

abbrev pub or_level : ℕ
or_level = 0

abbrev pub and_level : ℕ
and_level = 1

abbrev pub not_level : ℕ
not_level = 2

-- a test
abbrev pub test : List Piece → Part
test pieces = record { level = 3; pieces = pieces }

abbrev pub type_word : VariableType → Piece
type_word types.Int = p.Word words.Int
type_word types.Char = p.Word words.Char
type_word types.String = p.Word words.String
type_word types.Atom = p.Word words.Atom
type_word types.List = p.Word words.List

abbrev pub comparison_sign : Comparison → Piece
comparison_sign comparisons.Equal = p.Sign k.Equal
comparison_sign comparisons.NotEqual = p.Sign k.NotEqual
comparison_sign comparisons.Less = p.Sign k.Less
comparison_sign comparisons.LessEqual = p.Sign k.LessEqual
comparison_sign comparisons.Greater = p.Sign k.Greater
comparison_sign comparisons.GreaterEqual = p.Sign k.GreaterEqual

-- "edge" "(" Item "," Item ["," Label] ")": behind the second name stands this
abbrev pub edge_test : Name → Name → List Piece → Part
edge_test source target behind = test (p.Word words.Edge ∷ in_parentheses (p.Name source ∷ p.Sign k.Comma ∷ p.Name target ∷ behind))

abbrev pub condition_step : Cond-F Name (Option Name) Part → Part
condition_step (Cond-F.HasType type e) = test (type_word type ∷ in_parentheses (expression e))
condition_step (Cond-F.HasEdge source target) = edge_test source target []
condition_step (Cond-F.HasEdgeWith source target e m) = edge_test source target (p.Sign k.Comma ∷ label e m)
condition_step (Cond-F.Compared sign d e) = test (expression d ++ comparison_sign sign ∷ expression e)
condition_step (Cond-F.Not x) = record { level = not_level; pieces = p.Word words.Not ∷ operand not_level x }
condition_step (Cond-F.And x xs) = chain (p.Word words.And) and_level x xs
condition_step (Cond-F.Or x xs) = chain (p.Word words.Or) or_level x xs

unfoldable pub part_of_condition : Cond Name (Option Name) → Part
part_of_condition = fold-Cond Name (Option Name) Part condition_step

abbrev pub condition : Cond Name (Option Name) → List Piece
condition c = (part_of_condition c).pieces

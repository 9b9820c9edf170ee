-- The grammar of expressions.
use Rattle.std.specs.Prelude.{ℕ, zero, suc, ℤ, Bool, true, false, List, [], ◌∷◌, map, Option, Some, None}
use Rattle.gp_tokens.specs.declared.token.Token.{Token}
use Rattle.gp_tokens.specs.declared.want.Want.{Want}
use Rattle.gp_tokens.specs.declared.want.Want.TheVariants as wants
use Rattle.gp_tokens.specs.Grammar.{Grammar, One, NumberAt, String, Made, At, Separated, Never, ◌followed_by◌}
use Rattle.gp_tokens.specs.Numerals.{signed}
use Rattle.gp_tokens.specs.Shape.{second_of}
use Rattle.gp_tokens.specs.SignWants.{number_sign, string_sign, open_sign, close_sign, colon, dot, plus, minus, star, slash, empty}
use Rattle.gp_values.specs.Names.{Name}
use Rattle.gp_syntax.specs.declared.expression.Signed.{Signed}
use Rattle.gp_syntax.specs.declared.expression.SumSign.{SumSign}
use Rattle.gp_syntax.specs.declared.expression.SumSign.TheVariants as sums
use Rattle.gp_syntax.specs.declared.expression.ProductSign.{ProductSign}
use Rattle.gp_syntax.specs.declared.expression.ProductSign.TheVariants as products
use Rattle.gp_syntax.specs.declared.expression.Expr.{Expr}
use Rattle.gp_syntax.specs.declared.expression.Expr.TheVariants as e
use Rattle.gp_expressions.specs.declared.ranged.Ranged.{Ranged}
use Rattle.gp_expressions.specs.Ranges.{whole, with, both, gathered, all_joined, chained}
use Rattle.gp_expressions.specs.Signs.{indegree_word, outdegree_word, length_word}

abbrev pub Tree : Type 0
Tree = Expr Name

abbrev pub behind : {A : Type 0} → Want → Grammar A → Grammar A
behind sign part = Made second_of (One sign followed_by part)

-- an operand with its sign
abbrev pub signed_by : {S : Type 0} → S → Ranged Tree → Ranged (Signed S Tree)
signed_by {S} sign r = with (λ (x : Tree). record { sign = sign; operand = x }) r

-- operands, of which the first has this sign
abbrev pub headed : {S : Type 0} → S → List (Ranged (Signed S Tree)) → Ranged (List (Signed S Tree))
headed head [] = whole []
headed {S} head (r ∷ rs) = gathered (with (λ (x : Signed S Tree). record { sign = head; operand = x.operand }) r ∷ rs)

-- the first operand is without its sign, and one operand is no chain
abbrev pub sum_tree : List (Signed SumSign Tree) → Tree
sum_tree [] = e.Empty
sum_tree (x ∷ []) = x.operand
sum_tree (x ∷ y ∷ ys) = e.Sum x.operand (y ∷ ys)

abbrev pub product_tree : List (Signed ProductSign Tree) → Tree
product_tree [] = e.Empty
product_tree (x ∷ []) = x.operand
product_tree (x ∷ y ∷ ys) = e.Product x.operand (y ∷ ys)

-- an integer of 128 bits; any other is out of range, and this is its offset
abbrev pub numeral_tree : ℕ → Option ℤ → Ranged Tree
numeral_tree start (Some z) = whole (e.Number z)
numeral_tree start None = record { tree = e.Empty; past = Some start }

abbrev pub positive : ℕ × ℕ → Ranged Tree
positive (value, start) = numeral_tree start (signed false value)

abbrev pub negative : ℕ × ℕ → Ranged Tree
negative (value, start) = numeral_tree start (signed true value)

abbrev pub negated : Ranged Tree → Ranged Tree
negated r = with e.Negated r

module _ (operand : Grammar (Ranged Tree)) where
  -- Unary = Number | Operand
  unfoldable pub unary : Grammar (Ranged Tree)
  unary = At number_sign (Made positive NumberAt) operand

  -- Prod = Unary {("*" | "/") Unary}: between two `*` the operands have `/` before them
  unfoldable pub quotients : Grammar (Ranged (List (Signed ProductSign Tree)))
  quotients = Made (headed products.Times) (Separated slash (Made (signed_by products.Over) unary))

  unfoldable pub product : Grammar (Ranged Tree)
  product = Made (λ rs. with product_tree (all_joined rs)) (Separated star quotients)

  -- Sum = Prod {("+" | "-") Prod}: between two `+` the operands have `-` before them
  unfoldable pub differences : Grammar (Ranged (List (Signed SumSign Tree)))
  differences = Made (headed sums.Plus) (Separated minus (Made (signed_by sums.Minus) product))

  unfoldable pub sum : Grammar (Ranged Tree)
  sum = Made (λ rs. with sum_tree (all_joined rs)) (Separated plus differences)

  -- Str = Sum {"." Sum}
  unfoldable pub dots : Grammar (Ranged Tree)
  dots = Made (chained e.Empty e.Dot) (Separated dot sum)

  -- List = Str {":" Str}
  unfoldable pub joins : Grammar (Ranged Tree)
  joins = Made (chained e.Empty e.Join) (Separated colon dots)

-- a name of this class
abbrev pub text_of : Token → Name
text_of t = t.text

unfoldable pub name : Want → Grammar Name
name want = Made text_of (One want)

abbrev pub inner : {A : Type 0} → Token × (A × Token) → A
inner (_, (x, _)) = x

-- "(" Name ")"
unfoldable pub argument : Want → Grammar Name
argument want = Made inner (One open_sign followed_by name want followed_by One close_sign)

abbrev pub text : List ℕ → Ranged Tree
text characters = whole (e.Text characters)

abbrev pub variable : Name → Ranged Tree
variable n = whole (e.Variable n)

abbrev pub empty_list : Token → Ranged Tree
empty_list _ = whole e.Empty

abbrev pub of_name : (Name → Tree) → Token × Name → Ranged Tree
of_name make (_, n) = whole (make n)

-- String | Var | "empty" | ("indeg" | "outdeg") "(" Item ")" | "length" "(" Var ")"
unfoldable pub leaf : Grammar (Ranged Tree)
leaf =
    At string_sign (Made text String)
    (At wants.Variable (Made variable (name wants.Variable))
    (At empty (Made empty_list (One empty))
    (At indegree_word (Made (of_name e.InDegree) (One indegree_word followed_by argument wants.Item))
    (At outdegree_word (Made (of_name e.OutDegree) (One outdegree_word followed_by argument wants.Item))
    (Made (of_name e.Length) (One length_word followed_by argument wants.Variable))))))

-- A Unary that does not begin with a Number: "-" Unary, where a minus directly before a Number makes one negative numeral,
-- or "(" List ")", or a leaf.
unfoldable pub nested : Grammar (Ranged Tree) → Grammar (Ranged Tree)
nested operand =
    At minus (Made second_of (One minus followed_by At number_sign (Made negative NumberAt) (Made negated operand)))
    (At open_sign (Made inner (One open_sign followed_by joins operand followed_by One close_sign)) leaf)

-- the number is the room: one less at each bracket and each minus
unfoldable pub operand : ℕ → Grammar (Ranged Tree)
operand zero = Never
operand (suc n) = nested (operand n)

-- List, with so much room
abbrev pub list : ℕ → Grammar (Ranged Tree)
list n = joins (operand n)

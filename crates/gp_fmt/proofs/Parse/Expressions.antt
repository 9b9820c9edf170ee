-- Each expression that is read of the tokens of a text is read again.
use Rattle.std.proofs.Common.{◌≡◌, ℕ, zero, suc, ◌≤◌, ◌^◌, pos, neg_ℤ, Bool, true, false, List, [], ◌∷◌, Some, None, refl, lit<, ltb-true}
use Rattle.std.specs.Prelude.{nat_le, nat_lt, if◌then◌else◌}
use Rattle.std.specs.List.{AllByRecursion}
use Rattle.gp_tokens.specs.declared.token.Kind.TheVariants as k
use Rattle.gp_tokens.specs.declared.token.Token.{Token}
use Rattle.gp_values.specs.Names.{Name}
use Rattle.gp_values.specs.Texts.{IsText}
use Rattle.gp_tokens.specs.declared.want.Want.{Want}
use Rattle.gp_tokens.specs.declared.want.Want.TheVariants as wants
use Rattle.gp_tokens.specs.Grammar.{Grammar, One, shape_of, ◌followed_by◌}
use Rattle.gp_tokens.specs.Shape.{Shape, IsNumberAt, IsString, Made, Separated, second_of}
use Rattle.gp_tokens.specs.SignWants.{open_sign, close_sign, minus, plus, star, slash, dot, colon, empty}
use Rattle.gp_syntax.specs.declared.expression.Signed.{Signed}
use Rattle.gp_syntax.specs.declared.expression.SumSign.{SumSign}
use Rattle.gp_syntax.specs.declared.expression.SumSign.TheVariants as sums
use Rattle.gp_syntax.specs.declared.expression.ProductSign.{ProductSign}
use Rattle.gp_syntax.specs.declared.expression.ProductSign.TheVariants as products
use Rattle.gp_syntax.specs.declared.expression.Expr.TheVariants as e
use Rattle.gp_expressions.specs.declared.ranged.Ranged.{Ranged}
use Rattle.gp_expressions.specs.Ranges.{with, all_joined, chained}
use Rattle.gp_expressions.specs.Signs.{indegree_word, outdegree_word, length_word}
use Rattle.gp_expressions.specs.Expressions.{Tree, numeral_tree, positive, negative, negated, signed_by, headed, sum_tree, product_tree, unary, quotients, product, differences, sum, dots, joins, name, argument, inner, text, variable, empty_list, of_name, leaf, nested, operand, list}
use Rattle.gp_fmt.proofs.Parse.Printed.{Anything}
use Rattle.gp_fmt.proofs.Parse.Gives.{Gives, AllOfSome, any_token, token_gives, then_gives, behind_gives, made_gives, either_gives, separated_gives}
use Rattle.gp_fmt.proofs.Parse.Names.{IsNamed, item, variable as variable_class, name_gives, IsClass}
use Rattle.gp_fmt.proofs.Parse.Ranges.{InRange, gathered_all, joined_all, chained_is}
use Rattle.gp_fmt.proofs.Parse.Leaves.{number_gives}
use Rattle.gp_fmt.proofs.Parse.Parts.{IsGood, good_text, good_variable, good_empty, good_indegree, good_outdegree, good_length, good_positive, good_negative, good_negated}
use Rattle.gp_fmt.proofs.Parse.Sums.{IsGoodOperand, good_dot, good_join, good_sum, good_product}

-- ---- numerals

positive_good : (x : ℕ × ℕ) → x.0 ≤ 2 ^ 127 → InRange IsGood (positive x)
positive_good x le = go (nat_lt x.0 (2 ^ 127)) refl
  where
    go : (b : Bool) → nat_lt x.0 (2 ^ 127) ≡ b → InRange IsGood (numeral_tree x.1 (if b then Some (pos x.0) else None))
    go true same _ = good_positive x.0 (ltb-true x.0 (2 ^ 127) same)
    go false same h = absurd cc

minus_good : (v : ℕ) → v ≤ 2 ^ 127 → IsGood (e.Number (neg_ℤ (pos v)))
minus_good zero le = good_positive 0 (lit< tt)
minus_good (suc v) le = good_negative v le

negative_good : (x : ℕ × ℕ) → x.0 ≤ 2 ^ 127 → InRange IsGood (negative x)
negative_good x le = go (nat_le x.0 (2 ^ 127))
  where
    go : (b : Bool) → InRange IsGood (numeral_tree x.1 (if b then Some (neg_ℤ (pos x.0)) else None))
    go true _ = minus_good x.0 le
    go false h = absurd cc

-- ---- leaves

string_gives : Gives IsString IsText
string_gives ts rest x s h = (h.text, (token_gives (wants.Kind k.String) ts rest h.token s h.is).1)

argument_gives : (want : Want) → IsClass want → Gives (shape_of (argument want)) (IsNamed want)
unfolding argument
argument_gives want c =
    made_gives inner _ (λ (x : Token × (Name × Token)). IsNamed want x.1.0 × Anything x.1.1) (IsNamed want) (λ x h. h.0)
    (behind_gives open_sign _ (λ (x : Name × Token). IsNamed want x.0 × Anything x.1) (then_gives (shape_of (name want)) _ (IsNamed want) Anything (name_gives want c) (any_token close_sign)))

applied_gives : (sign want : Want) (make : Name → Tree) → IsClass want → ((n : Name) → IsNamed want n → IsGood (make n)) → Gives (Made (of_name make) (shape_of (One sign followed_by argument want))) (InRange IsGood)
applied_gives sign want make c f = made_gives (of_name make) _ (λ (x : Token × Name). IsNamed want x.1) (InRange IsGood) (λ x h _. f x.1 h) (behind_gives sign _ (IsNamed want) (argument_gives want c))

leaf_gives : Gives (shape_of leaf) (InRange IsGood)
unfolding leaf
leaf_gives =
    either_gives _ _ (InRange IsGood) (made_gives text _ IsText (InRange IsGood) (λ x h _. good_text x h) string_gives)
    (either_gives _ _ (InRange IsGood) (made_gives variable _ (IsNamed wants.Variable) (InRange IsGood) (λ x h _. good_variable x h) (name_gives wants.Variable variable_class))
    (either_gives _ _ (InRange IsGood) (made_gives empty_list _ Anything (InRange IsGood) (λ x h _. good_empty) (any_token empty))
    (either_gives _ _ (InRange IsGood) (applied_gives indegree_word wants.Item e.InDegree item good_indegree)
    (either_gives _ _ (InRange IsGood) (applied_gives outdegree_word wants.Item e.OutDegree item good_outdegree)
    (applied_gives length_word wants.Variable e.Length variable_class good_length)))))

-- ---- sums and products

module _ {S : Type 0} (outer inside : S) (outer_want inner_want : Want) (R : Shape (Ranged Tree)) (g : Gives R (InRange IsGood)) where
  abbrev AreGood : List (Signed S Tree) → Type 0
  AreGood ys = AllByRecursion IsGoodOperand ys

  signed_good : (r : Ranged Tree) → InRange IsGood r → InRange IsGoodOperand (signed_by inside r)
  signed_good r h = h

  headed_good : (rs : List (Ranged (Signed S Tree))) → AllOfSome (InRange IsGoodOperand) rs → InRange AreGood (headed outer rs)
  headed_good [] h = absurd h
  headed_good (r ∷ rs) h = gathered_all IsGoodOperand (with (λ (x : Signed S Tree). record { sign = outer; operand = x.operand }) r ∷ rs) h

  group_gives : Gives (Made (headed outer) (Separated inner_want (Made (signed_by inside) R))) (InRange AreGood)
  group_gives = made_gives (headed outer) _ (AllOfSome (InRange IsGoodOperand)) (InRange AreGood) headed_good (separated_gives inner_want _ (InRange IsGoodOperand) (made_gives (signed_by inside) R (InRange IsGood) (InRange IsGoodOperand) signed_good g))

  groups_good : (make : List (Signed S Tree) → Tree) → ((ys : List (Signed S Tree)) → AreGood ys → IsGood (make ys)) → (rs : List (Ranged (List (Signed S Tree)))) → AllOfSome (InRange AreGood) rs → InRange IsGood (with make (all_joined rs))
  groups_good make f [] h _ = absurd h
  groups_good make f (r ∷ rs) h none = f _ (joined_all IsGoodOperand (r ∷ rs) h none)

  groups_give : (make : List (Signed S Tree) → Tree) → ((ys : List (Signed S Tree)) → AreGood ys → IsGood (make ys)) → Gives (Made (λ rs. with make (all_joined rs)) (Separated outer_want (Made (headed outer) (Separated inner_want (Made (signed_by inside) R))))) (InRange IsGood)
  groups_give make f = made_gives (λ rs. with make (all_joined rs)) _ (AllOfSome (InRange AreGood)) (InRange IsGood) (groups_good make f) (separated_gives outer_want _ (InRange AreGood) group_gives)

sum_good : (ys : List (Signed SumSign Tree)) → AllByRecursion IsGoodOperand ys → IsGood (sum_tree ys)
sum_good [] h = good_empty
sum_good (x ∷ []) h = h.0
sum_good (x ∷ y ∷ ys) h = good_sum x.operand y ys h.0 h.1

product_good : (ys : List (Signed ProductSign Tree)) → AllByRecursion IsGoodOperand ys → IsGood (product_tree ys)
product_good [] h = good_empty
product_good (x ∷ []) h = h.0
product_good (x ∷ y ∷ ys) h = good_product x.operand y ys h.0 h.1

-- ---- lists

module _ (o : Grammar (Ranged Tree)) (g : Gives (shape_of o) (InRange IsGood)) where
  unary_gives : Gives (shape_of (unary o)) (InRange IsGood)
  unfolding unary
  unary_gives = either_gives _ _ (InRange IsGood) (made_gives positive IsNumberAt (λ x. x.0 ≤ 2 ^ 127) (InRange IsGood) positive_good number_gives) g

  product_gives : Gives (shape_of (product o)) (InRange IsGood)
  unfolding quotients product
  product_gives = groups_give products.Times products.Over star slash (shape_of (unary o)) unary_gives product_tree product_good

  sum_gives : Gives (shape_of (sum o)) (InRange IsGood)
  unfolding differences sum
  sum_gives = groups_give sums.Plus sums.Minus plus minus (shape_of (product o)) product_gives sum_tree sum_good

  dots_gives : Gives (shape_of (dots o)) (InRange IsGood)
  unfolding dots
  dots_gives = made_gives (chained e.Empty e.Dot) _ (AllOfSome (InRange IsGood)) (InRange IsGood) (chained_is IsGood e.Empty e.Dot good_dot) (separated_gives dot _ (InRange IsGood) sum_gives)

  joins_gives : Gives (shape_of (joins o)) (InRange IsGood)
  unfolding joins
  joins_gives = made_gives (chained e.Empty e.Join) _ (AllOfSome (InRange IsGood)) (InRange IsGood) (chained_is IsGood e.Empty e.Join good_join) (separated_gives colon _ (InRange IsGood) dots_gives)

operand_gives : (n : ℕ) → Gives (shape_of (operand n)) (InRange IsGood)
unfolding operand nested
operand_gives zero = λ ts rest x s h. absurd h
operand_gives (suc n) =
    let below : Gives (shape_of (operand n)) (InRange IsGood) = operand_gives n in
    either_gives _ _ (InRange IsGood)
    (made_gives second_of _ (λ (x : Token × Ranged Tree). InRange IsGood x.1) (InRange IsGood) (λ x h. h) (behind_gives minus _ (InRange IsGood)
    (either_gives _ _ (InRange IsGood) (made_gives negative IsNumberAt (λ x. x.0 ≤ 2 ^ 127) (InRange IsGood) negative_good number_gives)
    (made_gives negated _ (InRange IsGood) (InRange IsGood) (λ r h none. good_negated r.tree (h none)) below))))
    (either_gives _ _ (InRange IsGood)
    (made_gives inner _ (λ (x : Token × (Ranged Tree × Token)). InRange IsGood x.1.0 × Anything x.1.1) (InRange IsGood) (λ x h. h.0) (behind_gives open_sign _ (λ (x : Ranged Tree × Token). InRange IsGood x.0 × Anything x.1)
    (then_gives _ _ (InRange IsGood) Anything (joins_gives (operand n) below) (any_token close_sign))))
    leaf_gives)

pub list_gives : (n : ℕ) → Gives (shape_of (list n)) (InRange IsGood)
list_gives n = joins_gives (operand n) (operand_gives n)

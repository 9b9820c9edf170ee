-- Labels and conditions are read without a doubt, at each room, and no tokens are both a condition and a list.
use Rattle.std.proofs.Common.{◌≡◌, ℕ, zero, suc, ◌+◌, ◌-◌, Bool, true, false, List, [], ◌∷◌, ◌++◌, refl, sym, ◌∙◌, arith, Some, None}
use Rattle.std.specs.Prelude.{if◌then◌else◌, nat_eq, ◌||◌, Option, slice_get}
use Rattle.std.specs.List.{list_any}
use Rattle.std.proofs.lemmas.Bool.{ne_eqb}
use Rattle.gp_tokens.specs.declared.token.Token.{Token}
use Rattle.gp_tokens.specs.Kinds.{same_kind}
use Rattle.gp_tokens.specs.declared.want.Want.{Want}
use Rattle.gp_tokens.specs.declared.want.Want.TheVariants as wants
use Rattle.gp_tokens.specs.SignWants.{number_sign, string_sign, open_sign, close_sign, comma, colon, dot, plus, minus, star, slash, hash, empty, equal, less, greater}
use Rattle.gp_tokens.specs.Wants.{excludes, meets}
use Rattle.gp_tokens.specs.Shape.{Shape, Is, ◌then◌, one, other, absent, none, more}
use Rattle.gp_tokens.specs.Shape as s
use Rattle.gp_tokens.specs.Grammar.{Grammar, One, shape_of}
use Rattle.gp_tokens.specs.Fits.{Fits, BeginsBy, enders, nullable, Avoids, AllAvoid, AllExcluded, Answers}
use Rattle.gp_tokens.proofs.Wants.{excluded}
use Rattle.gp_tokens.proofs.Passing.{Passes}
use Rattle.gp_syntax.specs.declared.expression.Expr.{Expr}
use Rattle.gp_expressions.specs.declared.ranged.Ranged.{Ranged}
use Rattle.gp_expressions.specs.Signs.{and_word, or_word, indegree_word, outdegree_word, length_word, not_word, edge_word, int_word, char_word, string_word, atom_word, not_equal, less_equal, greater_equal}
use Rattle.gp_syntax.specs.declared.kinds.VariableType.{VariableType}
use Rattle.gp_syntax.specs.declared.kinds.VariableType.TheVariants as types
use Rattle.gp_expressions.proofs.ListLaws.{heads, list_signs, IsListPart, list_part}
use Rattle.gp_expressions.specs.Expressions.{Tree, unary, quotients, product, differences, sum, dots, joins, name, argument, leaf, nested, operand, list}
use Rattle.gp_expressions.specs.Conditions.{CondTree, mark, label, comparison, typed, edge_label, edge_test, comparing, plain_test, condition_signs, tells, encloses, condition_ahead, conjunction, disjunction, in_parentheses, negated_in, negation, condition}

-- ---- what the test finds at one token

quiet_among : (w : Want) (ws : List Want) (t : Token) → AllExcluded w ws → meets w t ≡ true → list_any (λ v. meets v t) ws ≡ false
quiet_among w [] t a m = refl
quiet_among w (v ∷ ws) t a m = rw (excluded w v t a.0 m) (quiet_among w ws t a.1 m)

quiet : (w : Want) (t : Token) → AllExcluded w condition_signs → meets w t ≡ true → tells t ≡ false
unfolding tells
quiet w t a m = quiet_among w condition_signs t a m

found_among : (w : Want) (ws : List Want) (t : Token) (k : ℕ) → slice_get ws k ≡ Some w → meets w t ≡ true → list_any (λ v. meets v t) ws ≡ true
found_among w [] t k e m = absurd cc
found_among w (v ∷ ws) t zero e m = let f : v ≡ w = cc in rw (f, m) refl
found_among w (v ∷ ws) t (suc k) e m = either (meets v t) (found_among w ws t k e m)
  where
    either : (b : Bool) {c : Bool} → c ≡ true → (b || c) ≡ true
    either true f = refl
    either false f = f

found : (w : Want) (t : Token) (k : ℕ) → slice_get condition_signs k ≡ Some w → meets w t ≡ true → tells t ≡ true
unfolding tells
found w t k e m = found_among w condition_signs t k e m

-- ---- over a list the test is the same before it and behind it

abbrev pub AllPass : {A : Type 0} → Shape A → Type 0
AllPass R = (n : ℕ) → Passes (encloses n) R

-- a token that is no sign of a condition and no parenthesis
record IsQuiet (w : Want) : Type 0 where
  signs : AllExcluded w condition_signs
  opens : excludes w open_sign ≡ true
  closes : excludes w close_sign ≡ true

token_pass : (w : Want) → IsQuiet w → AllPass (Is w)
token_pass w q n ts rest x p = rw (p.front, quiet w x q.signs p.is, excluded w open_sign x q.opens p.is, excluded w close_sign x q.closes p.is) refl

then_pass : {A B : Type 0} (R : Shape A) (S : Shape B) → AllPass R → AllPass S → AllPass (R then S)
then_pass R S p q n ts rest x h = p n ts h.mid x.0 h.first ∙ q n h.mid rest x.1 h.second

made_pass : {A B : Type 0} (f : A → B) (R : Shape A) → AllPass R → AllPass (s.Made f R)
made_pass f R p n ts rest y h = p n ts rest h.of h.shape

either_pass : {A : Type 0} (R S : Shape A) → AllPass R → AllPass S → AllPass (s.Either R S)
either_pass R S p q n ts rest x (one h) = p n ts rest x h
either_pass R S p q n ts rest x (other h) = q n ts rest x h

many_pass : {A : Type 0} (R : Shape A) → AllPass R → AllPass (s.Many R)
many_pass R p n ts _ _ none = refl
many_pass R p n ts rest _ (more {mid = mid} {x = x} {xs = xs} h hs) = p n ts mid x h ∙ many_pass R p n mid rest xs hs

separated_pass : {A : Type 0} (sign : Want) (R : Shape A) → IsQuiet sign → AllPass R → AllPass (s.Separated sign R)
separated_pass sign R q p = made_pass _ _ (then_pass R _ p (many_pass _ (made_pass _ _ (then_pass (Is sign) R (token_pass sign q) p))))

open_quiet : AllExcluded open_sign condition_signs
unfolding excludes meets same_kind
open_quiet = search

close_quiet : AllExcluded close_sign condition_signs
unfolding excludes meets same_kind
close_quiet = search

close_opens : excludes close_sign open_sign ≡ true
unfolding excludes meets same_kind
close_opens = refl

-- behind an opening parenthesis one more is open
opened : (n : ℕ) (ts mid : List Token) (x : Token) → Is open_sign ts mid x → encloses n ts ≡ encloses (n + 1) mid
opened n ts mid x p = rw (p.front, quiet open_sign x open_quiet p.is, p.is) refl

closed_one : (n : ℕ) (ts rest : List Token) (x : Token) → Is close_sign ts rest x → encloses (n + 1) ts ≡ encloses n rest
closed_one n ts rest x p =
    let z : nat_eq (n + 1) 0 ≡ false = ne_eqb (n + 1) 0 (λ e. omega arith) in
    let m : (n + 1) - 1 ≡ n = omega arith in
    rw (p.front, quiet close_sign x close_quiet p.is, excluded close_sign open_sign x close_opens p.is, p.is, z, m) refl

closed_all : (ts rest : List Token) (x : Token) → Is close_sign ts rest x → encloses 0 ts ≡ false
closed_all ts rest x p = rw (p.front, quiet close_sign x close_quiet p.is, excluded close_sign open_sign x close_opens p.is, p.is) refl

enclosed_pass : {A : Type 0} (R : Shape A) → AllPass R → AllPass (Is open_sign then R then Is close_sign)
enclosed_pass R p n ts rest x h =
    opened n ts h.mid x.0 h.first ∙ (p (n + 1) h.mid h.second.mid x.1.0 h.second.first ∙ closed_one n h.second.mid rest x.1.1 h.second.second)

quiet_number : IsQuiet number_sign
unfolding excludes meets same_kind
quiet_number = record { signs = search; opens = refl; closes = refl }

quiet_string : IsQuiet string_sign
unfolding excludes meets same_kind
quiet_string = record { signs = search; opens = refl; closes = refl }

quiet_variable : IsQuiet wants.Variable
unfolding excludes meets same_kind
quiet_variable = record { signs = search; opens = refl; closes = refl }

quiet_item : IsQuiet wants.Item
unfolding excludes meets same_kind
quiet_item = record { signs = search; opens = refl; closes = refl }

quiet_empty : IsQuiet empty
unfolding excludes meets same_kind
quiet_empty = record { signs = search; opens = refl; closes = refl }

quiet_indegree : IsQuiet indegree_word
unfolding excludes meets same_kind
quiet_indegree = record { signs = search; opens = refl; closes = refl }

quiet_outdegree : IsQuiet outdegree_word
unfolding excludes meets same_kind
quiet_outdegree = record { signs = search; opens = refl; closes = refl }

quiet_length : IsQuiet length_word
unfolding excludes meets same_kind
quiet_length = record { signs = search; opens = refl; closes = refl }

quiet_colon : IsQuiet colon
unfolding excludes meets same_kind
quiet_colon = record { signs = search; opens = refl; closes = refl }

quiet_dot : IsQuiet dot
unfolding excludes meets same_kind
quiet_dot = record { signs = search; opens = refl; closes = refl }

quiet_plus : IsQuiet plus
unfolding excludes meets same_kind
quiet_plus = record { signs = search; opens = refl; closes = refl }

quiet_minus : IsQuiet minus
unfolding excludes meets same_kind
quiet_minus = record { signs = search; opens = refl; closes = refl }

quiet_star : IsQuiet star
unfolding excludes meets same_kind
quiet_star = record { signs = search; opens = refl; closes = refl }

quiet_slash : IsQuiet slash
unfolding excludes meets same_kind
quiet_slash = record { signs = search; opens = refl; closes = refl }

number_pass : AllPass s.IsNumberAt
number_pass n ts rest x p = token_pass number_sign quiet_number n ts rest p.token p.is

string_pass : AllPass s.IsString
string_pass n ts rest x p = token_pass string_sign quiet_string n ts rest p.token p.is

name_pass : (w : Want) → IsQuiet w → AllPass (shape_of (name w))
unfolding name
name_pass w q = made_pass _ _ (token_pass w q)

argument_pass : (w : Want) → IsQuiet w → AllPass (shape_of (argument w))
unfolding argument
argument_pass w q = made_pass _ _ (enclosed_pass _ (name_pass w q))

call_pass : (word w : Want) → IsQuiet word → IsQuiet w → AllPass (Is word then shape_of (argument w))
call_pass word w p q = then_pass (Is word) _ (token_pass word p) (argument_pass w q)

leaf_pass : AllPass (shape_of leaf)
unfolding leaf
leaf_pass =
    either_pass _ _ (made_pass _ _ string_pass)
    (either_pass _ _ (made_pass _ _ (name_pass wants.Variable quiet_variable))
    (either_pass _ _ (made_pass _ _ (token_pass empty quiet_empty))
    (either_pass _ _ (made_pass _ _ (call_pass indegree_word wants.Item quiet_indegree quiet_item))
    (either_pass _ _ (made_pass _ _ (call_pass outdegree_word wants.Item quiet_outdegree quiet_item))
    (made_pass _ _ (call_pass length_word wants.Variable quiet_length quiet_variable))))))

module _ (g : Grammar (Ranged Tree)) (p : AllPass (shape_of g)) where
  unary_pass : AllPass (shape_of (unary g))
  unfolding unary
  unary_pass = either_pass _ _ (made_pass _ _ number_pass) p

  product_pass : AllPass (shape_of (product g))
  unfolding quotients product
  product_pass = made_pass _ _ (separated_pass star _ quiet_star (made_pass _ _ (separated_pass slash _ quiet_slash (made_pass _ _ unary_pass))))

  sum_pass : AllPass (shape_of (sum g))
  unfolding differences sum
  sum_pass = made_pass _ _ (separated_pass plus _ quiet_plus (made_pass _ _ (separated_pass minus _ quiet_minus (made_pass _ _ product_pass))))

  joins_pass : AllPass (shape_of (joins g))
  unfolding dots joins
  joins_pass = made_pass _ _ (separated_pass colon _ quiet_colon (made_pass _ _ (separated_pass dot _ quiet_dot sum_pass)))

nested_pass : (g : Grammar (Ranged Tree)) → AllPass (shape_of g) → AllPass (shape_of (nested g))
unfolding nested
nested_pass g p =
    either_pass _ _ (made_pass _ _ (then_pass (Is minus) _ (token_pass minus quiet_minus) (either_pass _ _ (made_pass _ _ number_pass) (made_pass _ _ p))))
    (either_pass _ _ (made_pass _ _ (enclosed_pass _ (joins_pass g p))) leaf_pass)

operand_pass : (n : ℕ) → AllPass (shape_of (operand n))
unfolding operand
operand_pass zero = λ n ts rest x h. absurd h
operand_pass (suc n) = nested_pass (operand n) (operand_pass n)

pub list_pass : (n : ℕ) → AllPass (shape_of (list n))
list_pass n = joins_pass (operand n) (operand_pass n)

-- ---- before a list no parenthesis encloses a condition

abbrev pub Fronts : {A : Type 0} → Shape A → Type 0
Fronts {A} R = (ts rest : List Token) (x : A) → R ts rest x → condition_ahead ts ≡ false

token_front : (w : Want) → excludes w open_sign ≡ true → (ts rest : List Token) (x : Token) → Is w ts rest x → condition_ahead ts ≡ false
unfolding condition_ahead
token_front w e ts rest x p = rw (p.front, excluded w open_sign x e p.is) refl

enclosed_front : {A : Type 0} (R : Shape A) → AllPass R → (ts rest : List Token) (x : Token × (A × Token)) → (Is open_sign then R then Is close_sign) ts rest x → condition_ahead ts ≡ false
unfolding condition_ahead
enclosed_front R p ts rest x h =
    let e = p 0 h.mid h.second.mid x.1.0 h.second.first ∙ closed_all h.second.mid rest x.1.1 h.second.second in
    rw (h.first.front, h.first.is, e) refl

leaf_front : (ts rest : List Token) (x : Ranged Tree) → shape_of leaf ts rest x → condition_ahead ts ≡ false
unfolding leaf name
leaf_front ts rest x (one h) = token_front string_sign quiet_string.opens ts rest h.shape.token h.shape.is
leaf_front ts rest x (other (one h)) = token_front wants.Variable quiet_variable.opens ts rest h.shape.of h.shape.shape
leaf_front ts rest x (other (other (one h))) = token_front empty quiet_empty.opens ts rest h.of h.shape
leaf_front ts rest x (other (other (other (one h)))) = token_front indegree_word quiet_indegree.opens ts h.shape.mid h.of.0 h.shape.first
leaf_front ts rest x (other (other (other (other (one h))))) = token_front outdegree_word quiet_outdegree.opens ts h.shape.mid h.of.0 h.shape.first
leaf_front ts rest x (other (other (other (other (other h))))) = token_front length_word quiet_length.opens ts h.shape.mid h.of.0 h.shape.first

nested_front : (g : Grammar (Ranged Tree)) → AllPass (shape_of g) → (ts rest : List Token) (x : Ranged Tree) → shape_of (nested g) ts rest x → condition_ahead ts ≡ false
unfolding nested
nested_front g p ts rest x (one h) = token_front minus quiet_minus.opens ts h.shape.mid h.of.0 h.shape.first
nested_front g p ts rest x (other (one h)) = enclosed_front _ (joins_pass g p) ts rest h.of h.shape
nested_front g p ts rest x (other (other h)) = leaf_front ts rest x h

operand_front : (n : ℕ) (ts rest : List Token) (x : Ranged Tree) → shape_of (operand n) ts rest x → condition_ahead ts ≡ false
unfolding operand
operand_front zero ts rest x h = absurd h
operand_front (suc n) ts rest x h = nested_front (operand n) (operand_pass n) ts rest x h

unary_front : (n : ℕ) (ts rest : List Token) (x : Ranged Tree) → shape_of (unary (operand n)) ts rest x → condition_ahead ts ≡ false
unfolding unary
unary_front n ts rest x (one h) = token_front number_sign quiet_number.opens ts rest h.shape.token h.shape.is
unary_front n ts rest x (other h) = operand_front n ts rest x h

made_front : {A B : Type 0} (f : A → B) (R : Shape A) → Fronts R → Fronts (s.Made f R)
made_front f R p ts rest y h = p ts rest h.of h.shape

separated_front : {A : Type 0} (sign : Want) (R : Shape A) → Fronts R → Fronts (s.Separated sign R)
separated_front sign R p ts rest x h = p ts h.shape.mid h.of.0 h.shape.first

list_front : (n : ℕ) → Fronts (shape_of (list n))
unfolding quotients product differences sum dots joins
list_front n =
    made_front _ _ (separated_front colon _ (made_front _ _ (separated_front dot _ (made_front _ _ (separated_front plus _ (made_front _ _ (separated_front minus _ (made_front _ _
    (made_front _ _ (separated_front star _ (made_front _ _ (separated_front slash _ (made_front _ _ (unary_front n))))))))))))))

test_front : (n : ℕ) → Fronts (shape_of (plain_test (list n)))
unfolding plain_test edge_test comparing excludes meets same_kind
test_front n ts rest x (one h) = token_front int_word refl ts h.shape.mid h.of.0 h.shape.first
test_front n ts rest x (other (one h)) = token_front char_word refl ts h.shape.mid h.of.0 h.shape.first
test_front n ts rest x (other (other (one h))) = token_front string_word refl ts h.shape.mid h.of.0 h.shape.first
test_front n ts rest x (other (other (other (one h)))) = token_front atom_word refl ts h.shape.mid h.of.0 h.shape.first
test_front n ts rest x (other (other (other (other (one h))))) = token_front edge_word refl ts h.shape.mid h.of.0 h.shape.first
test_front n ts rest x (other (other (other (other (other h))))) = list_front n ts h.shape.mid h.of.0 h.shape.first

-- ---- in a condition the test meets a sign

abbrev pub Meets : {A : Type 0} → Shape A → Type 0
Meets {A} R = (n : ℕ) (ts rest : List Token) (x : A) → R ts rest x → encloses n ts ≡ true

token_meets : (w : Want) (k : ℕ) → slice_get condition_signs k ≡ Some w → Meets (Is w)
token_meets w k e n ts rest x p = rw (p.front, found w x k e p.is) refl

first_meets : {A B : Type 0} (R : Shape A) (S : Shape B) → Meets R → Meets (R then S)
first_meets R S p n ts rest x h = p n ts h.mid x.0 h.first

second_meets : {A B : Type 0} (R : Shape A) (S : Shape B) → AllPass R → Meets S → Meets (R then S)
second_meets R S p q n ts rest x h = p n ts h.mid x.0 h.first ∙ q n h.mid rest x.1 h.second

made_meets : {A B : Type 0} (f : A → B) (R : Shape A) → Meets R → Meets (s.Made f R)
made_meets f R p n ts rest y h = p n ts rest h.of h.shape

either_meets : {A : Type 0} (R S : Shape A) → Meets R → Meets S → Meets (s.Either R S)
either_meets R S p q n ts rest x (one h) = p n ts rest x h
either_meets R S p q n ts rest x (other h) = q n ts rest x h

separated_meets : {A : Type 0} (sign : Want) (R : Shape A) → Meets R → Meets (s.Separated sign R)
separated_meets sign R p = made_meets _ _ (first_meets R _ p)

enclosed_meets : {A : Type 0} (R : Shape A) → Meets R → Meets (Is open_sign then R then Is close_sign)
enclosed_meets R p n ts rest x h = opened n ts h.mid x.0 h.first ∙ p (n + 1) h.mid h.second.mid x.1.0 h.second.first

comparison_meets : Meets (shape_of comparison)
unfolding comparison
comparison_meets =
    either_meets _ _ (made_meets _ _ (token_meets equal 0 refl))
    (either_meets _ _ (made_meets _ _ (token_meets not_equal 1 refl))
    (either_meets _ _ (made_meets _ _ (token_meets less 2 refl))
    (either_meets _ _ (made_meets _ _ (token_meets less_equal 3 refl))
    (either_meets _ _ (made_meets _ _ (token_meets greater 4 refl))
    (made_meets _ _ (token_meets greater_equal 5 refl))))))

test_meets : (m : ℕ) → Meets (shape_of (plain_test (list m)))
unfolding plain_test edge_test comparing
test_meets m =
    either_meets _ _ (made_meets _ _ (first_meets _ _ (token_meets int_word 10 refl)))
    (either_meets _ _ (made_meets _ _ (first_meets _ _ (token_meets char_word 11 refl)))
    (either_meets _ _ (made_meets _ _ (first_meets _ _ (token_meets string_word 12 refl)))
    (either_meets _ _ (made_meets _ _ (first_meets _ _ (token_meets atom_word 13 refl)))
    (either_meets _ _ (made_meets _ _ (first_meets _ _ (token_meets edge_word 9 refl)))
    (made_meets _ _ (second_meets _ _ (list_pass m) (first_meets _ _ comparison_meets)))))))

module _ (g : Grammar (Ranged CondTree)) (p : Meets (shape_of g)) where
  disjunction_meets : Meets (shape_of (disjunction g))
  unfolding conjunction disjunction
  disjunction_meets = made_meets _ _ (separated_meets _ _ (made_meets _ _ (separated_meets _ _ p)))

  enclosing_meets : Meets (shape_of (in_parentheses g))
  unfolding in_parentheses
  enclosing_meets = made_meets _ _ (enclosed_meets _ disjunction_meets)

negation_meets : (m n : ℕ) → Meets (shape_of (negation (list m) n))
unfolding negation negated_in
negation_meets m zero = λ n ts rest x h. absurd h
negation_meets m (suc n) =
    let p = negation_meets m n in
    either_meets _ _ (made_meets _ _ (first_meets _ _ (token_meets not_word 6 refl))) (either_meets _ _ (enclosing_meets (negation (list m) n) p) (test_meets m))

pub condition_meets : (m n : ℕ) → Meets (shape_of (condition m n))
condition_meets m n = disjunction_meets (negation (list m) n) (negation_meets m n)

condition_first : (m n : ℕ) (ts rest : List Token) (x : Ranged CondTree) → shape_of (in_parentheses (negation (list m) n)) ts rest x → condition_ahead ts ≡ true
unfolding in_parentheses condition_ahead
condition_first m n ts rest x h =
    let e = disjunction_meets (negation (list m) n) (negation_meets m n) 0 h.shape.mid h.shape.second.mid h.of.1.0 h.shape.second.first in
    rw (h.shape.first.front, h.shape.first.is, e) refl

-- ---- conditions fit

pub avoid_both : {A : Type 0} (ws vs : List Want) (g : Grammar A) → AllAvoid ws g → AllAvoid vs g → AllAvoid (ws ++ vs) g
avoid_both [] vs g a b = b
avoid_both (w ∷ ws) vs g a b = (a.0, avoid_both ws vs g a.1 b)

excluded_both : (w : Want) (ws vs : List Want) → AllExcluded w ws → AllExcluded w vs → AllExcluded w (ws ++ vs)
excluded_both w [] vs a b = b
excluded_both w (v ∷ ws) vs a b = (a.0, excluded_both w ws vs a.1 b)

-- a part that ends by a label
pub record IsLabelPart {A : Type 0} (g : Grammar A) : Type 0 where
  pub fits : Fits g
  pub full : nullable g ≡ false
  pub ends : enders g ≡ hash ∷ list_signs

pub label_part : (l : Grammar (Ranged Tree)) → IsListPart l → IsLabelPart (label l)
unfolding name mark label excludes meets same_kind
label_part l p = record { fits = let f = p.fits in rw p.ends (search f); full = rw p.full refl; ends = rw p.ends refl }

comparing_fits : (l : Grammar (Ranged Tree)) → IsListPart l → Fits (comparing l)
unfolding comparison comparing excludes meets same_kind
comparing_fits l p = let f = p.fits in rw p.ends (search f)

comparing_full : (l : Grammar (Ranged Tree)) → IsListPart l → nullable (comparing l) ≡ false
unfolding comparing
comparing_full l p = rw p.full refl

comparing_ends : (l : Grammar (Ranged Tree)) → IsListPart l → enders (comparing l) ≡ list_signs
unfolding comparison comparing
comparing_ends l p = rw (p.full, p.ends) refl

comparing_avoids : (l : Grammar (Ranged Tree)) → IsListPart l → AllAvoid heads (comparing l)
unfolding comparing
comparing_avoids l p = let a = p.avoids in rw p.full (search a)

edge_fits : (l : Grammar (Ranged Tree)) → IsListPart l → Fits (edge_test l)
unfolding name edge_label edge_test excludes meets same_kind
edge_fits l p = let q = label_part l p in let f = q.fits in rw (q.full, q.ends) (search f)

edge_begins : (l : Grammar (Ranged Tree)) → BeginsBy edge_word (edge_test l)
unfolding edge_test
edge_begins l = refl

edge_avoids : (l : Grammar (Ranged Tree)) → AllAvoid (not_word ∷ int_word ∷ char_word ∷ string_word ∷ atom_word ∷ []) (edge_test l)
unfolding edge_test excludes meets same_kind
edge_avoids l = search

typed_fits : (l : Grammar (Ranged Tree)) → IsListPart l → (type : VariableType) → Fits (typed l type)
unfolding typed excludes meets same_kind
typed_fits l p type = let f = p.fits in rw p.ends (search f)

test_fits : (l : Grammar (Ranged Tree)) → IsListPart l → Fits (plain_test l)
unfolding plain_test excludes meets same_kind
test_fits l p =
    let a = comparing_avoids l p in let c = comparing_fits l p in let e = edge_fits l p in let b = edge_begins l in let d = edge_avoids l in
    let t = typed_fits l p types.Int in let u = typed_fits l p types.Char in let v = typed_fits l p types.String in let w = typed_fits l p types.Atom in search (a, c, e, b, d, t, u, v, w)

test_full : (l : Grammar (Ranged Tree)) → IsListPart l → nullable (plain_test l) ≡ false
unfolding edge_test plain_test
test_full l p = rw (comparing_full l p) refl

test_ends : (l : Grammar (Ranged Tree)) → IsListPart l → enders (plain_test l) ≡ list_signs
unfolding name edge_label typed edge_test plain_test
test_ends l p = rw (p.full, comparing_full l p, comparing_ends l p) refl

test_avoids : (l : Grammar (Ranged Tree)) → IsListPart l → Avoids not_word (plain_test l)
unfolding plain_test excludes meets same_kind
test_avoids l p = let a = comparing_avoids l p in let d = edge_avoids l in search (a, d)

-- what must not come behind a condition
abbrev pub condition_enders : List Want
condition_enders = or_word ∷ and_word ∷ list_signs

-- a part of a condition: whatever avoids these signs may come behind it
module _ (m : ℕ) where
  pub negation_full : (n : ℕ) → nullable (negation (list m) n) ≡ false
  unfolding negation negated_in in_parentheses
  negation_full zero = refl
  negation_full (suc n) = rw (test_full (list m) (list_part m)) refl

  pub negation_follow : (n : ℕ) {A : Type 0} (g : Grammar A) → AllAvoid list_signs g → AllAvoid (enders (negation (list m) n)) g
  unfolding negation negated_in in_parentheses conjunction disjunction
  negation_follow zero g a = tt
  negation_follow (suc n) g a =
      rw (negation_full n, test_full (list m) (list_part m), test_ends (list m) (list_part m)) (avoid_both (enders (negation (list m) n)) list_signs g (negation_follow n g a) a)

  negation_excluded : (n : ℕ) (w : Want) → AllExcluded w list_signs → AllExcluded w (enders (negation (list m) n))
  unfolding negation negated_in in_parentheses conjunction disjunction
  negation_excluded zero w a = tt
  negation_excluded (suc n) w a =
      rw (negation_full n, test_full (list m) (list_part m), test_ends (list m) (list_part m)) (excluded_both w (enders (negation (list m) n)) list_signs (negation_excluded n w a) a)

  disjunction_fits : (n : ℕ) → Fits (negation (list m) n) → Fits (disjunction (negation (list m) n))
  unfolding conjunction disjunction excludes meets same_kind
  disjunction_fits n f = let a = negation_excluded n and_word search in let b = negation_excluded n or_word search in search (f, a, b)

  close_follows : (n : ℕ) → AllAvoid (enders (disjunction (negation (list m) n))) (One close_sign)
  unfolding conjunction disjunction excludes meets same_kind
  close_follows n = let f = negation_follow n (One close_sign) search in search f

  enclosed_fits : (n : ℕ) → Fits (negation (list m) n) → Fits (in_parentheses (negation (list m) n))
  unfolding in_parentheses
  enclosed_fits n f = let d = disjunction_fits n f in let c = close_follows n in search (d, c)

  not_begins : (n : ℕ) → Avoids not_word (in_parentheses (negation (list m) n))
  unfolding in_parentheses excludes meets same_kind
  not_begins n = search

  negation_fits : (n : ℕ) → Fits (negation (list m) n)
  unfolding negation negated_in
  negation_fits zero = tt
  negation_fits (suc n) =
      let f = negation_fits n in
      ((tt, (f, tt)), ((enclosed_fits n f, (test_fits (list m) (list_part m), (condition_first m n, test_front m))), (refl, (not_begins n, test_avoids (list m) (list_part m)))))

  pub condition_fits : (n : ℕ) → Fits (condition m n)
  condition_fits n = disjunction_fits n (negation_fits n)

  pub condition_full : (n : ℕ) → nullable (condition m n) ≡ false
  unfolding conjunction disjunction
  condition_full n = negation_full n

  pub condition_follow : (n : ℕ) {A : Type 0} (g : Grammar A) → AllAvoid condition_enders g → AllAvoid (enders (condition m n)) g
  unfolding conjunction disjunction
  condition_follow n g a = (a.0, (a.1.0, negation_follow n g a.1.1))

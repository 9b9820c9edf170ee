-- Lists of trees, one tree more at a time.
use Rattle.std.proofs.Common.{◌≡◌, List, [], ◌∷◌, ◌++◌, map, refl, sym, ap, append_assoc}
use Rattle.std.proofs.lemmas.List.{append-nil, map-append}
use Rattle.std.specs.Option.{option_or}
use Rattle.gp_memory.proofs.Basics.{or_assoc as regroup, or_none as none_last}
use Rattle.gp_expressions.specs.declared.ranged.Ranged.{Ranged}
use Rattle.gp_expressions.specs.Ranges.{first_past, joined, all_joined, chained}
use Rattle.gp_expressions.specs.Expressions.{Tree, sum_tree, product_tree}
use Rattle.gp_expressions.specs.inside.Chains.{linked, operands_of, tree_of}
use Rattle.gp_syntax.specs.declared.expression.Signed.{Signed}
use Rattle.gp_syntax.specs.declared.expression.SumSign.{SumSign}
use Rattle.gp_syntax.specs.declared.expression.ProductSign.{ProductSign}
use Rattle.gp_syntax.specs.declared.expression.Expr.TheVariants as e

pub past_more : {A : Type 0} (rs : List (Ranged A)) (r : Ranged A) → first_past (rs ++ r ∷ []) ≡ option_or (first_past rs) r.past
unfolding first_past
past_more [] r = none_last r.past
past_more (x ∷ rs) r = rw (past_more rs r) (sym (regroup x.past (first_past rs) r.past))

pub past_behind : {A : Type 0} (r : Ranged A) (rs : List (Ranged A)) (s : Ranged A) → option_or r.past (first_past (rs ++ s ∷ [])) ≡ option_or (option_or r.past (first_past rs)) s.past
past_behind r rs s = rw (past_more rs s) (sym (regroup r.past (first_past rs) s.past))

pub joined_more : {A : Type 0} (xss : List (List A)) (ys : List A) → joined (xss ++ ys ∷ []) ≡ joined xss ++ ys
unfolding joined
joined_more [] ys = append-nil ys
joined_more (xs ∷ xss) ys = rw (joined_more xss ys) (simp append_assoc)

pub tree_more : {A B : Type 0} (f : A → B) (now : List B) (xs : List A) (x : A) → now ≡ map f xs → now ++ f x ∷ [] ≡ map f (xs ++ x ∷ [])
tree_more f now xs x e = rw (e, map-append) refl

pub list_behind : {A B : Type 0} (f : A → List B) (first now : List B) (xs : List A) (x : A) → now ≡ first ++ joined (map f xs) → now ++ f x ≡ first ++ joined (map f (xs ++ x ∷ []))
list_behind f first now xs x e = rw (e, map-append, joined_more (map f xs) (f x)) (simp append_assoc)

-- lists one behind the other, of which there may be none
pub all_joined_is : {A : Type 0} (rs : List (Ranged (List A))) → all_joined rs ≡ record { tree = joined (map (λ (r : Ranged (List A)). r.tree) rs); past = first_past rs }
unfolding joined first_past
all_joined_is [] = refl
all_joined_is (r ∷ rs) = refl

-- a chain, by what it is made of
pub chain_is : {A : Type 0} (none : A) (make : A → List A → A) (rs : List (Ranged A)) → chained none make rs ≡ record { tree = tree_of none make (linked rs).tree; past = (linked rs).past }
unfolding first_past
chain_is none make [] = refl
chain_is none make (r ∷ []) = rw (none_last r.past) refl
chain_is none make (r ∷ s ∷ rs) = refl

-- operands with their signs, by what a chain of them is made of
pub sum_tree_is : (ys : List (Signed SumSign Tree)) → sum_tree ys ≡ tree_of e.Empty e.Sum (operands_of ys)
sum_tree_is [] = refl
sum_tree_is (y ∷ []) = refl
sum_tree_is (y ∷ z ∷ zs) = refl

pub product_tree_is : (ys : List (Signed ProductSign Tree)) → product_tree ys ≡ tree_of e.Empty e.Product (operands_of ys)
product_tree_is [] = refl
product_tree_is (y ∷ []) = refl
product_tree_is (y ∷ z ∷ zs) = refl

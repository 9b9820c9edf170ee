-- Trees without numerals that are out of range.
use Rattle.std.proofs.Common.{◌≡◌, List, [], ◌∷◌, map, None, refl, ap}
use Rattle.std.specs.List.{AllByRecursion}
use Rattle.gp_memory.proofs.Basics.{all_append, neither as none_of}
use Rattle.gp_expressions.specs.declared.ranged.Ranged.{Ranged}
use Rattle.gp_expressions.specs.Ranges.{whole, first_past, gathered, joined, all_joined, chained}
use Rattle.gp_fmt.proofs.Parse.Gives.{AllOfSome}

-- it holds of the tree, where no numeral is out of range
abbrev pub InRange : {A : Type 0} → (A → Type 0) → Ranged A → Type 0
InRange P r = r.past ≡ None → P r.tree

pub past_whole : {A : Type 0} (xs : List A) → first_past (map whole xs) ≡ None
unfolding first_past
past_whole [] = refl
past_whole (x ∷ xs) = past_whole xs

trees_whole : {A : Type 0} (xs : List A) → map (λ (r : Ranged A). r.tree) (map whole xs) ≡ xs
trees_whole [] = refl
trees_whole (x ∷ xs) = ap (λ l. x ∷ l) (trees_whole xs)

pub gathered_whole : {A : Type 0} (xs : List A) → gathered (map whole xs) ≡ whole xs
gathered_whole xs = λ i. record { tree = trees_whole xs i; past = past_whole xs i }

pub gathered_all : {A : Type 0} (P : A → Type 0) (rs : List (Ranged A)) → AllByRecursion (InRange P) rs → first_past rs ≡ None → AllByRecursion P (map (λ (r : Ranged A). r.tree) rs)
unfolding first_past
gathered_all P [] h e = tt
gathered_all P (r ∷ rs) h e = let n = none_of r.past (first_past rs) e in (h.0 n.0, gathered_all P rs h.1 n.1)

all_of_all : {A : Type 0} (P : A → Type 0) (xss : List (List A)) → AllByRecursion (AllByRecursion P) xss → AllByRecursion P (joined xss)
unfolding joined
all_of_all P [] h = tt
all_of_all P (xs ∷ xss) h = all_append P xs (joined xss) h.0 (all_of_all P xss h.1)

pub joined_all : {A : Type 0} (P : A → Type 0) (rs : List (Ranged (List A))) → AllByRecursion (InRange (AllByRecursion P)) rs → (all_joined rs).past ≡ None → AllByRecursion P (all_joined rs).tree
joined_all P [] h e = tt
joined_all P (r ∷ rs) h e =
    let n = none_of r.past (first_past rs) e in
    all_append P r.tree (joined (map (λ (r : Ranged (List _)). r.tree) rs)) (h.0 n.0) (all_of_all P _ (gathered_all (AllByRecursion P) rs h.1 n.1))

-- a chain of one tree or of some
pub chained_is : {A : Type 0} (P : A → Type 0) (none : A) (make : A → List A → A) → ((x y : A) (ys : List A) → P x → AllByRecursion P (y ∷ ys) → P (make x (y ∷ ys)))
    → (rs : List (Ranged A)) → AllOfSome (InRange P) rs → InRange P (chained none make rs)
chained_is P none make f [] h e = absurd h
chained_is P none make f (r ∷ []) h e = h.0 e
chained_is {A} P none make f (r ∷ s ∷ rs) h e =
    let n = none_of r.past (first_past (s ∷ rs)) e in
    f r.tree s.tree (map (λ (r : Ranged A). r.tree) rs) (h.0 n.0) (gathered_all P (s ∷ rs) h.1 n.1)

-- Trees, with the first numeral that is out of range.
use Rattle.std.specs.Prelude.{ℕ, List, [], ◌∷◌, ◌++◌, map, Option, Some, None}
use Rattle.std.specs.Option.{option_or}
use Rattle.gp_expressions.specs.declared.ranged.Ranged.{Ranged}

-- a tree without numerals
abbrev pub whole : {A : Type 0} → A → Ranged A
whole x = record { tree = x; past = None }

-- a tree made of another
abbrev pub with : {A B : Type 0} → (A → B) → Ranged A → Ranged B
with f r = record { tree = f r.tree; past = r.past }

-- a tree made of two, in the order of the text
abbrev pub both : {A B C : Type 0} → (A → B → C) → Ranged A → Ranged B → Ranged C
both f r s = record { tree = f r.tree s.tree; past = option_or r.past s.past }

unfoldable pub first_past : {A : Type 0} → List (Ranged A) → Option ℕ
first_past [] = None
first_past (r ∷ rs) = option_or r.past (first_past rs)

-- the list of trees
abbrev pub gathered : {A : Type 0} → List (Ranged A) → Ranged (List A)
gathered {A} rs = record { tree = map (λ (r : Ranged A). r.tree) rs; past = first_past rs }

unfoldable pub joined : {A : Type 0} → List (List A) → List A
joined [] = []
joined (xs ∷ xss) = xs ++ joined xss

-- the lists one behind the other
abbrev pub all_joined : {A : Type 0} → List (Ranged (List A)) → Ranged (List A)
all_joined [] = whole []
all_joined (r ∷ rs) = both (λ x xs. x ++ joined xs) r (gathered rs)

-- A chain of the first and the further trees; one tree is no chain. Where there is none it is the tree that is given.
abbrev pub chained : {A : Type 0} → A → (A → List A → A) → List (Ranged A) → Ranged A
chained none make [] = whole none
chained none make (r ∷ []) = r
chained none make (r ∷ s ∷ rs) = both make r (gathered (s ∷ rs))

-- What a step makes of one half of a graph, its nodes or its edges: what is not kept goes, and what the right side says
-- is put at its images.
use Rattle.std.specs.Prelude.{ℕ, suc, ◌+◌, Bool, if◌then◌else◌, List, [], ◌∷◌, map, fold, Option, Some, None, slice_index}
use Rattle.std.specs.List.{list_any}
use Rattle.std.specs.Ordering.{nat_cmp}
use Rattle.std.specs.FinMap.{FinMap, insert, remove}
use Rattle.gp_syntax.specs.Rule.{is_origin}

-- where an item of the right side that keeps this place is put, and the next number behind it
abbrev pub image_of : List ℕ → Option ℕ → ℕ → ℕ
image_of found (Some i) k = slice_index found i
image_of found None k = k

abbrev pub next_of : Option ℕ → ℕ → ℕ
next_of (Some i) k = k
next_of None k = k + 1

abbrev pub images_from : List ℕ → List (Option ℕ) → ℕ → List ℕ
images_from found [] k = []
images_from found (o ∷ os) k = image_of found o k ∷ images_from found os (next_of o k)

-- some item of the right side keeps the place
abbrev pub stays : List (Option ℕ) → ℕ → Bool
stays kept i = list_any (is_origin i) kept

-- the images at the places that do not stay
abbrev pub gone : (ℕ → Bool) → List ℕ → List ℕ
gone kept [] = []
gone kept (n ∷ ns) = if kept 0 then gone (λ i. kept (suc i)) ns else n ∷ gone (λ i. kept (suc i)) ns

abbrev pub cut : {X : Type 0} → List ℕ → FinMap nat_cmp X → FinMap nat_cmp X
cut ns s = fold remove s ns

-- what each item makes, at its image
abbrev pub put_all : {Q X : Type 0} → List ℕ → (Q → Option ℕ) → (Q → X) → List Q → FinMap nat_cmp X → ℕ → FinMap nat_cmp X
put_all found keeps make [] s k = s
put_all found keeps make (q ∷ qs) s k = put_all found keeps make qs (insert s (image_of found (keeps q) k) (make q)) (next_of (keeps q) k)

abbrev pub half_after : {Q X : Type 0} → List ℕ → (Q → Option ℕ) → (Q → X) → List Q → FinMap nat_cmp X → ℕ → FinMap nat_cmp X
half_after found keeps make qs s k = put_all found keeps make qs (cut (gone (stays (map keeps qs)) found) s) k

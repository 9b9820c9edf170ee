-- Loops over what is left of a list, by the item at a place.
use Rattle.std.proofs.Common.{◌≡◌, ℕ, zero, suc, ◌+◌, ◌<◌, ◌≤◌, ◌&&◌, Bool, true, false, get_or, List, [], ◌∷◌, length, map, fold, drop, Option, Some, None, slice_get, refl, sym, ap, ◌∙◌, add-one, arith}
use Rattle.std.specs.Option.{option_or}
use Rattle.std.proofs.Math.ListN.{drop_of_length-le}
use Rattle.std.specs.List.{list_all}
use Rattle.std.proofs.lemmas.List.{length-map}
use Rattle.std.proofs.lemmas.Option.{slice_get_read}
use Rattle.gp_memory.proofs.Basics.{drop_suc}
use Rattle.gp_syntax.specs.Fault.{first_told}

pub drop_item : {A : Type 0} (xs : List A) (k : ℕ) (x : A) → slice_get xs k ≡ Some x → drop k xs ≡ x ∷ drop (k + 1) xs
drop_item xs k x h = drop_suc xs k x h ∙ rw add-one refl

-- an item that what is asked of the list passes over
pub passed : {A Y : Type 0} (f : List A → Y) (xs : List A) (k : ℕ) (x : A) (whole : Y) → slice_get xs k ≡ Some x → f (x ∷ drop (k + 1) xs) ≡ f (drop (k + 1) xs) → f (drop k xs) ≡ whole → f (drop (k + 1) xs) ≡ whole
passed f xs k x whole h over same = sym over ∙ sym (ap f (drop_item xs k x h)) ∙ same

-- one item more, in a fold
pub fold_on : {A B : Type 0} (f : B → A → B) (xs : List A) (k : ℕ) (x : A) (a : B) → slice_get xs k ≡ Some x → fold f (f a x) (drop (k + 1) xs) ≡ fold f a (drop k xs)
fold_on f xs k x a h = sym (ap (fold f a) (drop_item xs k x h))

-- and past the last
pub fold_ended : {A B : Type 0} (f : B → A → B) (xs : List A) (k : ℕ) (a : B) → length xs ≤ k → fold f a (drop k xs) ≡ a
fold_ended f xs k a l = ap (fold f a) (drop_of_length-le xs l)

-- an item of which nothing is told
pub untold : {A B : Type 0} (f : A → Option B) (xs : List A) (k : ℕ) (x : A) → slice_get xs k ≡ Some x → f x ≡ None → first_told f (drop (k + 1) xs) ≡ first_told f (drop k xs)
untold f xs k x h n = sym (ap (first_told f) (drop_item xs k x h) ∙ ap (λ o. option_or o (first_told f (drop (k + 1) xs))) n)

-- an item of which something is told
pub told_here : {A B : Type 0} (f : A → Option B) (xs : List A) (k : ℕ) (x : A) (y : B) → slice_get xs k ≡ Some x → f x ≡ Some y → first_told f (drop k xs) ≡ Some y
told_here f xs k x y h s = ap (first_told f) (drop_item xs k x h) ∙ ap (λ o. option_or o (first_told f (drop (k + 1) xs))) s

pub told_ended : {A B : Type 0} (f : A → Option B) (xs : List A) (k : ℕ) → length xs ≤ k → first_told f (drop k xs) ≡ None
told_ended f xs k l = ap (first_told f) (drop_of_length-le xs l)

pub fold_step : {A B : Type 0} (f : B → A → B) (xs : List A) (k : ℕ) (x : A) (a b m : B) → slice_get xs k ≡ Some x → b ≡ f a x → fold f a (drop k xs) ≡ m → fold f b (drop (k + 1) xs) ≡ m
fold_step f xs k x a b m h e s = ap (λ z. fold f z (drop (k + 1) xs)) e ∙ fold_on f xs k x a h ∙ s

-- ---- tests of all items

pub all_on : {A : Type 0} (p : A → Bool) (xs : List A) (k : ℕ) (x : A) → slice_get xs k ≡ Some x → p x ≡ true → list_all p (drop (k + 1) xs) ≡ list_all p (drop k xs)
all_on p xs k x h t = sym (ap (list_all p) (drop_item xs k x h) ∙ ap (λ b. b && list_all p (drop (k + 1) xs)) t)

pub all_fails : {A : Type 0} (p : A → Bool) (xs : List A) (k : ℕ) (x : A) → slice_get xs k ≡ Some x → p x ≡ false → list_all p (drop k xs) ≡ false
all_fails p xs k x h f = ap (list_all p) (drop_item xs k x h) ∙ ap (λ b. b && list_all p (drop (k + 1) xs)) f

pub all_ended : {A : Type 0} (p : A → Bool) (xs : List A) (k : ℕ) → length xs ≤ k → list_all p (drop k xs) ≡ true
all_ended p xs k l = ap (list_all p) (drop_of_length-le xs l)

pub item_at : {A : Type 0} (xs : List A) (k : ℕ) (x : A) → k < length xs → x ≡ get_or xs k x → slice_get xs k ≡ Some x
item_at xs k x l e = slice_get_read xs _ k x refl l e

-- an item of a list that is read item by item
pub mapped_at : {A B : Type 0} (f : A → B) (xs : List A) (k : ℕ) (x : A) → k < length (map f xs) → x ≡ get_or xs k x → slice_get (map f xs) k ≡ Some (f x)
mapped_at f [] k x l e = absurd (omega (arith, l))
mapped_at f (y ∷ xs) zero x l e = ap (λ z. Some (f z)) (sym e)
mapped_at f (y ∷ xs) (suc k) x l e = mapped_at f xs k x (omega (arith, l)) e

pub mapped_below : {A B : Type 0} (f : A → B) (xs : List A) (k : ℕ) → k < length (map f xs) → k < length xs
mapped_below f xs k l = rw (length-map xs f) at l

-- Lists whose elements stand in another one, from a place on; and lists that go along with one another.
use Rattle.std.proofs.Common.{◌≡◌, ℕ, suc, ◌+◌, Bool, true, false, cond, List, [], ◌∷◌, ◌++◌, map, filter, length, slice_get, Some, refl, subst, arith}
use Rattle.gp_reader.specs.Places.{EachTo}

-- the elements stand in the list from the place on
abbrev pub From : {A : Type 0} → List A → ℕ → List A → Type 0
From w k [] = Unit {0}
From w k (x ∷ xs) = (slice_get w k ≡ Some x) × From w (suc k) xs

behind_one : {A : Type 0} (w xs : List A) (y : A) (k : ℕ) → From w k xs → From (y ∷ w) (suc k) xs
behind_one w [] y k h = tt
behind_one w (x ∷ xs) y k h = (h.0, behind_one w xs y (suc k) h.1)

pub whole : {A : Type 0} (w : List A) → From w 0 w
whole [] = tt
whole (x ∷ w) = (refl, behind_one w w x 0 (whole w))

pub left_part : {A : Type 0} (w xs ys : List A) (k : ℕ) → From w k (xs ++ ys) → From w k xs
left_part w [] ys k h = tt
left_part w (x ∷ xs) ys k h = (h.0, left_part w xs ys (suc k) h.1)

pub right_part : {A : Type 0} (w xs ys : List A) (k n : ℕ) → n ≡ k + length xs → From w k (xs ++ ys) → From w n ys
right_part w [] ys k n e h = let f : k ≡ n = omega (arith, e) in subst (λ i. From w i ys) f h
right_part w (x ∷ xs) ys k n e h = right_part w xs ys (suc k) n (omega (arith, e)) h.1

-- ---- lists that go along

pub both : {A B : Type 0} (R : A → B → Type 0) (xs us : List A) (ys vs : List B) → EachTo R xs ys → EachTo R us vs → EachTo R (xs ++ us) (ys ++ vs)
both R [] us [] vs h g = g
both R [] us (y ∷ ys) vs h g = absurd h
both R (x ∷ xs) us [] vs h g = absurd h
both R (x ∷ xs) us (y ∷ ys) vs h g = (h.0, both R xs us ys vs h.1 g)

kept : {A B : Type 0} (R : A → B → Type 0) (b c : Bool) (x : A) (y : B) (xs : List A) (ys : List B) → b ≡ c → R x y → EachTo R xs ys → EachTo R (cond b (x ∷ xs) xs) (cond c (y ∷ ys) ys)
kept R true true x y xs ys e r h = (r, h)
kept R false false x y xs ys e r h = h
kept R true false x y xs ys e r h = cc
kept R false true x y xs ys e r h = cc

-- those that are chosen go along too, where the choices do
pub chosen : {A B : Type 0} (R : A → B → Type 0) (f : A → Bool) (g : B → Bool) → ((x : A) (y : B) → R x y → f x ≡ g y) → (xs : List A) (ys : List B) → EachTo R xs ys → EachTo R (filter f xs) (filter g ys)
chosen R f g same [] [] h = tt
chosen R f g same [] (y ∷ ys) h = absurd h
chosen R f g same (x ∷ xs) [] h = absurd h
chosen R f g same (x ∷ xs) (y ∷ ys) h = kept R (f x) (g y) x y (filter f xs) (filter g ys) (same x y h.0) h.0 (chosen R f g same xs ys h.1)

pub mapped : {A B C : Type 0} (R : C → B → Type 0) (S : A → B → Type 0) (f : A → C) → ((x : A) (y : B) → S x y → R (f x) y) → (xs : List A) (ys : List B) → EachTo S xs ys → EachTo R (map f xs) ys
mapped R S f each [] [] h = tt
mapped R S f each [] (y ∷ ys) h = absurd h
mapped R S f each (x ∷ xs) [] h = absurd h
mapped R S f each (x ∷ xs) (y ∷ ys) h = (each x y h.0, mapped R S f each xs ys h.1)

-- What is put in one after another.
use Rattle.std.proofs.Common.{◌≡◌, ◌⊎◌, inl, inr, ℕ, ◌+◌, ◌<◌, List, length, slice_index_or, sym, ap, subst, ◌∙◌, arith}
use Rattle.std.proofs.lemmas.Bool.{cases_eq}
use Rattle.std.proofs.lemmas.List.{get_or_default}
use Rattle.gp_certify.specs.inside.Grows.{Grows, IsAmong, OfOne}

pub among_none : {X : Type 0} (xs : List X) (x : X) → IsAmong xs 0 x → ⊥
among_none xs x (k, l, e) = absurd (omega arith)

pub among_kept : {X : Type 0} (xs : List X) (n : ℕ) (x : X) → IsAmong xs n x → IsAmong xs (n + 1) x
among_kept xs n x (k, l, e) = (k, omega arith, e)

pub among_here : {X : Type 0} (xs : List X) (n : ℕ) (y d : X) → n < length xs → y ≡ slice_index_or xs n d → IsAmong xs (n + 1) y
among_here xs n y d l e = (n, omega arith, get_or_default xs n y d l ∙ sym e)

pub among_cases : {X : Type 0} (xs : List X) (n : ℕ) (x y d : X) → n < length xs → y ≡ slice_index_or xs n d → IsAmong xs (n + 1) x → IsAmong xs n x ⊎ (x ≡ y)
among_cases xs n x y d h s (k, l, e) = elim (cases_eq k n) [
  | inl z ↦ inr (sym e ∙ ap (λ i. slice_index_or xs i x) z ∙ get_or_default xs n x d h ∙ sym s)
  | inr z ↦ inl (k, apart_less k n l z, e)
]
  where
    apart_less : (k n : ℕ) → k < n + 1 → (k ≡ n → ⊥) → k < n
    apart_less k n l z = omega arith

pub grows_none : {X : Type 0} (old these : X → Type 0) → ((x : X) → these x → ⊥) → Grows old old these
grows_none old these f = record { only = λ x h. inl h; keeps = λ x h. h; has = λ x h. absurd (f x h) }

pub grows_as : {X : Type 0} (old new these those : X → Type 0) → ((x : X) → these x → those x) → ((x : X) → those x → these x) → Grows old new these → Grows old new those
grows_as old new these those f g h = record {
  only = λ x n. elim (h.only x n) [ inl a ↦ inl a | inr b ↦ inr (f x b) ];
  keeps = h.keeps;
  has = λ x t. h.has x (g x t);
}

-- one more of a list
pub grows_among : {X : Type 0} (a b c : X → Type 0) (xs : List X) (n : ℕ) (y d : X) → n < length xs → y ≡ slice_index_or xs n d → Grows a b (IsAmong xs n) → Grows b c (λ x. x ≡ y) → Grows a c (IsAmong xs (n + 1))
grows_among a b c xs n y d l s g h = record {
  only = λ x i. elim (h.only x i) [
    | inl p ↦ (elim (g.only x p) [ inl q ↦ inl q | inr q ↦ inr (among_kept xs n x q) ])
    | inr p ↦ inr (subst (IsAmong xs (n + 1)) (sym p) (among_here xs n y d l s))
  ];
  keeps = λ x i. h.keeps x (g.keeps x i);
  has = λ x i. elim (among_cases xs n x y d l s i) [ inl p ↦ h.keeps x (g.has x p) | inr p ↦ h.has x p ];
}

pub of_none : {X Y : Type 0} (R : X → Y → Type 0) (xs : List X) (y : Y) → OfOne R xs 0 y → ⊥
of_none R xs y (x, i, r) = among_none xs x i

-- what one more of a list brings
pub grows_of : {X Y : Type 0} (R : X → Y → Type 0) (a b c : Y → Type 0) (xs : List X) (n : ℕ) (z d : X) → n < length xs → z ≡ slice_index_or xs n d → Grows a b (OfOne R xs n) → Grows b c (R z) → Grows a c (OfOne R xs (n + 1))
grows_of R a b c xs n z d l s g h = record {
  only = λ y i. elim (h.only y i) [
    | inl p ↦ (elim (g.only y p) [ inl q ↦ inl q | inr q ↦ inr (q.0, among_kept xs n q.0 q.1, q.2) ])
    | inr p ↦ inr (z, among_here xs n z d l s, p)
  ];
  keeps = λ y i. h.keeps y (g.keeps y i);
  has = λ y i. elim (among_cases xs n i.0 z d l s i.1) [ inl p ↦ h.keeps y (g.has y (i.0, p, i.2)) | inr p ↦ h.has y (subst (λ x. R x y) p i.2) ];
}

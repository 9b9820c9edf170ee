-- Bytes that a text lacks, and where it is cut.
use Rattle.std.proofs.Common.{inl, inr, ◌≡◌, ℕ, zero, suc, ◌<◌, ◌^◌, Bool, true, false, not, List, [], ◌∷◌, ◌++◌, refl, sym, ap, ◌∙◌, arith, decimal}
use Rattle.std.specs.Prelude.{◌==◌, All}
use Rattle.std.specs.List.{list_all, slice_split, join_with_byte}
use Rattle.std.specs.Str.{all_ascii_digits}
use Rattle.std.specs.Char.{is_ascii_digit}
use Rattle.std.proofs.lemmas.Bool.{eq-eqb}
use Rattle.std.proofs.lemmas.Bool.Decides.{eqb_tells}
use Rattle.std.proofs.lemmas.Fmt.{digits_decimal}
use Rattle.std.proofs.lemmas.List.Splits.{slice_split_none, slice_split_at}
use Rattle.std.proofs.lemmas.Str.Parse.{numerals_by_value, tells_all_ascii_digits}
use Rattle.gp_memory.proofs.Basics.{and_both, and_left, and_right, not_true}

-- ---- bytes

abbrev pub lacks : ℕ → List ℕ → Bool
lacks c w = list_all (λ b. not (b == c)) w

pub lacks_append : (c : ℕ) (xs ys : List ℕ) → lacks c xs ≡ true → lacks c ys ≡ true → lacks c (xs ++ ys) ≡ true
lacks_append c [] ys h k = k
lacks_append c (x ∷ xs) ys h k = and_both _ _ (and_left _ (lacks c xs) h) (lacks_append c xs ys (and_right (not (x == c)) _ h) k)

pub all_lack : (c : ℕ) (w : List ℕ) → lacks c w ≡ true → All (λ b. (b == c) ≡ false) w
all_lack c [] h k d b = absurd (omega arith)
all_lack c (x ∷ xs) h zero d b = not_true (x == c) (and_left _ (lacks c xs) h)
all_lack c (x ∷ xs) h (suc k) d b = all_lack c xs (and_right (not (x == c)) _ h) k d (omega arith)

pub lack_all : (c : ℕ) (w : List ℕ) → All (λ b. (b == c) ≡ false) w → lacks c w ≡ true
lack_all c [] h = refl
lack_all c (x ∷ xs) h = and_both _ _ (ap not (h 0 0 (omega arith))) (lack_all c xs (λ k d b. h (suc k) d (omega arith)))

-- a text that has the byte does not lack it
pub no_cut : (c : ℕ) (a r : List ℕ) → lacks c (a ++ (c ∷ r)) ≡ true → ⊥
no_cut c [] r h = let f : (c == c) ≡ false = not_true (c == c) (and_left _ (lacks c r) h) in let t : (c == c) ≡ true = eq-eqb c c refl in absurd cc
no_cut c (x ∷ a) r h = no_cut c a r (and_right (not (x == c)) _ h)

abbrev pub first_of : List ℕ → ℕ
first_of [] = 0
first_of (x ∷ xs) = x

abbrev pub rest_of : {A : Type 0} → List A → List A
rest_of [] = []
rest_of (x ∷ xs) = xs

-- a text is cut at its first such byte in one way
pub cut_same : (c : ℕ) (a b r s : List ℕ) → lacks c a ≡ true → lacks c b ≡ true → a ++ (c ∷ r) ≡ b ++ (c ∷ s) → (a ≡ b) × (r ≡ s)
cut_same c [] [] r s h k e = (refl, ap rest_of e)
cut_same c [] (y ∷ b) r s h k e =
    let f : (y == c) ≡ false = not_true (y == c) (and_left _ (lacks c b) k) in
    let t : (y == c) ≡ true = eq-eqb y c (sym (ap first_of e)) in absurd cc
cut_same c (x ∷ a) [] r s h k e =
    let f : (x == c) ≡ false = not_true (x == c) (and_left _ (lacks c a) h) in
    let t : (x == c) ≡ true = eq-eqb x c (ap first_of e) in absurd cc
cut_same c (x ∷ a) (y ∷ b) r s h k e =
    let rest = cut_same c a b r s (and_right (not (x == c)) _ h) (and_right (not (y == c)) _ k) (ap rest_of e) in
    (ap (λ z. z ∷ a) (ap first_of e) ∙ ap (λ l. y ∷ l) rest.0, rest.1)

-- ---- digits

pub digits : (n : ℕ) → n < 2 ^ 64 → all_ascii_digits (decimal n) ≡ true
digits n h = digits_decimal {P = λ ds. all_ascii_digits ds ≡ true} (numerals_by_value _ tells_all_ascii_digits) n h

differ : (d c : ℕ) → is_ascii_digit d ≡ true → is_ascii_digit c ≡ false → (d == c) ≡ false
differ d c h k = elim (eqb_tells d c) [
  | inl p ↦ absurd (let s : is_ascii_digit d ≡ is_ascii_digit c = ap is_ascii_digit p.1 in let t : true ≡ false = sym h ∙ s ∙ k in cc)
  | inr q ↦ q.0
]

pub lacks_digits : (c : ℕ) (ds : List ℕ) → is_ascii_digit c ≡ false → all_ascii_digits ds ≡ true → lacks c ds ≡ true
lacks_digits c [] k h = refl
lacks_digits c (d ∷ ds) k h =
    and_both _ _ (ap not (differ d c (and_left _ (all_ascii_digits ds) h) k)) (lacks_digits c ds k (and_right (is_ascii_digit d) _ h))

-- ---- words

pub list_all_append : {A : Type 0} (p : A → Bool) (xs ys : List A) → list_all p xs ≡ true → list_all p ys ≡ true → list_all p (xs ++ ys) ≡ true
list_all_append p [] ys h k = k
list_all_append p (x ∷ xs) ys h k = and_both _ _ (and_left _ (list_all p xs) h) (list_all_append p xs ys (and_right (p x) _ h) k)

pub split_joined : (w : List ℕ) (ws : List (List ℕ)) → lacks 32 w ≡ true → list_all (lacks 32) ws ≡ true → slice_split (λ b. b == 32) (join_with_byte 32 (w ∷ ws)) ≡ w ∷ ws
split_joined w [] h k = slice_split_none (λ b. b == 32) w (all_lack 32 w h)
split_joined w (v ∷ ws) h k =
    slice_split_at (λ b. b == 32) w 32 (join_with_byte 32 (v ∷ ws)) (all_lack 32 w h) refl
    ∙ ap (λ vs. w ∷ vs) (split_joined v ws (and_left _ (list_all (lacks 32) ws) k) (and_right (lacks 32 v) _ k))

pub join_lacks : (ws : List (List ℕ)) → list_all (lacks 10) ws ≡ true → lacks 10 (join_with_byte 32 ws) ≡ true
join_lacks [] h = refl
join_lacks (w ∷ []) h = and_left (lacks 10 w) _ h
join_lacks (w ∷ v ∷ ws) h = lacks_append 10 w (32 ∷ join_with_byte 32 (v ∷ ws)) (and_left (lacks 10 w) _ h) (join_lacks (v ∷ ws) (and_right (lacks 10 w) _ h))

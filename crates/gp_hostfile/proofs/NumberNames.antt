-- Names made of a letter and a number, in the order of their numbers.
use Rattle.std.proofs.Common.{◌≡◌, ℕ, zero, suc, ◌+◌, ◌^◌, ◌<◌, ◌≤◌, Bool, true, false, List, [], ◌∷◌, ◌++◌, map, Some, None, refl, ap, subst, ◌∙◌, arith, decimal}
use Rattle.std.specs.Prelude.{slice_get, ◌||◌}
use Rattle.std.specs.List.{position_from}
use Rattle.std.proofs.lemmas.List.Folds.{list_any-append}
use Rattle.std.proofs.lemmas.Slice.Eq.{bytes_eq-Decides}
use Rattle.gp_values.specs.Names.{Name, same_name, has_name, place_of, first_doubled_behind}
use Rattle.gp_tokens.proofs.Numerals.{decimal_apart}

-- numbers of at most 64 digits, each more than the one before it, and none below the first number
abbrev pub RisesFrom : ℕ → List ℕ → Type 0
RisesFrom low [] = Unit {0}
RisesFrom low (k ∷ ks) = (low ≤ k) × (k < 10 ^ 64) × RisesFrom (k + 1) ks

pub rises_at : (low : ℕ) (ks : List ℕ) (i n : ℕ) → RisesFrom low ks → slice_get ks i ≡ Some n → (low ≤ n) × (n < 10 ^ 64)
rises_at low [] i n r h = absurd cc
rises_at low (k ∷ ks) zero n r h = let same : k ≡ n = cc in subst (λ n. (low ≤ n) × (n < 10 ^ 64)) same (r.0, r.1)
rises_at low (k ∷ ks) (suc i) n r h = let below = rises_at (k + 1) ks i n r.2 h in let a = r.0 in let b = below.0 in (omega arith, below.1)

module _ (letter : ℕ) where
  abbrev pub name : ℕ → Name
  name n = letter ∷ decimal n

  abbrev pub names : List ℕ → List Name
  names ks = map name ks

  name_itself : (n : ℕ) → same_name (name n) (name n) ≡ true
  name_itself n = (bytes_eq-Decides (name n) (name n)).1 refl

  name_apart : (m n : ℕ) → m < 10 ^ 64 → n < 10 ^ 64 → (m ≡ n → ⊥) → same_name (name m) (name n) ≡ false
  name_apart m n p q apart = go (same_name (name m) (name n)) refl
    where
      go : (b : Bool) → same_name (name m) (name n) ≡ b → b ≡ false
      go false e = refl
      go true e =
          let same : letter ∷ decimal m ≡ letter ∷ decimal n = (bytes_eq-Decides (name m) (name n)).0 e in
          let digits : decimal m ≡ decimal n = cc in
          absurd (apart (decimal_apart m n p q digits))

  -- ---- no name stands twice

  -- no name of a number from this one on is among them
  abbrev AreBelow : ℕ → List Name → Type 0
  AreBelow low seen = (n : ℕ) → low ≤ n → n < 10 ^ 64 → has_name seen (name n) ≡ false

  one_more_below : (low k : ℕ) (seen : List Name) → low ≤ k → k < 10 ^ 64 → AreBelow low seen → AreBelow (k + 1) (seen ++ name k ∷ [])
  one_more_below low k seen le small h n more short =
      list_any-append (same_name (name n)) seen (name k ∷ []) ∙ rw (h n (omega arith) short, name_apart n k short small (λ e. omega arith)) refl

  none_doubled : (low : ℕ) (seen : List Name) (ks : List ℕ) → AreBelow low seen → RisesFrom low ks → first_doubled_behind seen (names ks) ≡ None
  none_doubled low seen [] h r = refl
  none_doubled low seen (k ∷ ks) h r =
      rw (h k r.0 r.1) (none_doubled (k + 1) (seen ++ name k ∷ []) ks (one_more_below low k seen r.0 r.1 h) r.2)

  pub no_name_twice : (low : ℕ) (ks : List ℕ) → RisesFrom low ks → first_doubled_behind [] (names ks) ≡ None
  no_name_twice low ks r = none_doubled low [] ks (λ n le small. refl) r

  -- ---- places

  position : (low i j n : ℕ) (ks : List ℕ) → RisesFrom low ks → slice_get ks i ≡ Some n → position_from (same_name (name n)) j (names ks) ≡ Some (j + i)
  position low i j n [] r h = absurd cc
  position low zero j n (k ∷ ks) r h =
      let same : k ≡ n = cc in
      let e : j ≡ j + 0 = omega arith in
      rw (same, name_itself n) (ap (λ x. Some x) e)
  position low (suc i) j n (k ∷ ks) r h =
      let b = rises_at (k + 1) ks i n r.2 h in
      let le = b.0 in
      let e : (j + 1) + i ≡ j + suc i = omega arith in
      rw (name_apart n k b.1 r.1 (λ e. omega arith)) (position (k + 1) i (j + 1) n ks r.2 h ∙ ap (λ x. Some x) e)

  -- a name of the list is at the place of its number
  pub place_is : (low i n : ℕ) (ks : List ℕ) → RisesFrom low ks → slice_get ks i ≡ Some n → place_of (names ks) (name n) ≡ Some i
  place_is low i n ks r h = let e : 0 + i ≡ i = omega arith in position low i 0 n ks r h ∙ ap (λ x. Some x) e

  pub has_this : (i n : ℕ) (ks : List ℕ) → slice_get ks i ≡ Some n → has_name (names ks) (name n) ≡ true
  has_this i n [] h = absurd cc
  has_this zero n (k ∷ ks) h = let same : k ≡ n = cc in rw (same, name_itself n) refl
  has_this (suc i) n (k ∷ ks) h = go (same_name (name n) (name k)) (has_this i n ks h)
    where
      go : (b : Bool) → has_name (names ks) (name n) ≡ true → (b || has_name (names ks) (name n)) ≡ true
      go true h = refl
      go false h = h

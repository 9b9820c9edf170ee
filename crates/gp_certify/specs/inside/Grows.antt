-- What is put into lists and sets.
use Rattle.std.specs.Prelude.{◌≡◌, ◌⊎◌, ℕ, ◌<◌, true, List, slice_index_or, Contains}
use Rattle.std.specs.Ordering.{nat_cmp}
use Rattle.std.specs.BTreeSet.{BTreeSet, contains}

-- the list has what fits, and nothing else
pub record HasJust {X : Type 0} (these : X → Type 0) (xs : List X) : Type 0 where
  pub sound : (x : X) → Contains xs x → these x
  pub whole : (x : X) → these x → Contains xs x

-- what is there now is what was there, and this
pub record Grows {X : Type 0} (old new these : X → Type 0) : Type 0 where
  pub only : (x : X) → new x → old x ⊎ these x
  pub keeps : (x : X) → old x → new x
  pub has : (x : X) → these x → new x

abbrev pub Has : BTreeSet ℕ → ℕ → Type 0
Has s k = contains nat_cmp s k ≡ true

-- the least number was taken out
pub record IsTaken (old new : BTreeSet ℕ) (k : ℕ) : Type 0 where
  pub was : Has old k
  pub others : (n : ℕ) → Has old n → (n ≡ k) ⊎ Has new n
  pub left : (n : ℕ) → Has new n → Has old n × (k < n)

-- it is one of the first so many of a list
abbrev pub IsAmong : {X : Type 0} → List X → ℕ → X → Type 0
IsAmong {X} xs n x = (k : ℕ) × (k < n) × (slice_index_or xs k x ≡ x)

-- this holds of one of them
abbrev pub OfOne : {X Y : Type 0} → (X → Y → Type 0) → List X → ℕ → Y → Type 0
OfOne {X} R xs n y = (x : X) × IsAmong xs n x × R x y

-- A row of truth values.
use Rattle.std.specs.Prelude.{◌≡◌, ℕ, ◌<◌, ◌%◌, List, [], ◌∷◌, Bool, true, false, slice_index_or, slice_set}

pub record Row : Type 0 where
  pub cells : List Bool
  -- the places that steps made false, the last one first
  pub taken : List ℕ

abbrev pub row : List Bool → List ℕ → Row
row cells taken = record { cells = cells; taken = taken }

-- each place is below n
abbrev pub AreBelow : ℕ → List ℕ → Type 0
AreBelow n [] = Unit {0}
AreBelow n (p ∷ ps) = (p < n) × AreBelow n ps

-- the row with its last step taken back
abbrev pub undone_of : List Bool → List ℕ → Row
undone_of cells [] = row cells []
undone_of cells (p ∷ ps) = row (slice_set cells p true) ps

-- no place of the share below n is true
abbrev pub NoneTrue : List Bool → ℕ → ℕ → ℕ → Type 0
NoneTrue cells shares share n = (q : ℕ) → q < n → q % shares ≡ share → slice_index_or cells q false ≡ false

-- the place is the least true one of the share
abbrev pub IsLeastTrue : List Bool → ℕ → ℕ → ℕ → Type 0
IsLeastTrue cells shares share p = (p % shares ≡ share) × (slice_index_or cells p false ≡ true) × NoneTrue cells shares share p

-- Numbers that are all different.
use Rattle.std.specs.Prelude.{◌≡◌, ℕ, ◌<◌, List, length, slice_index}

-- no number stands twice
abbrev pub AreApart : List ℕ → Type 0
AreApart ns = (i j : ℕ) → i < j → j < length ns → slice_index ns i ≡ slice_index ns j → ⊥

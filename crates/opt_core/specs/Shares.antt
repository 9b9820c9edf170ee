-- Which shares are quiet, as a list of truth values.
use Rattle.std.specs.Prelude.{◌≡◌, ℕ, ◌%◌, ◌<◌, ◌≤◌, ◌⊎◌, List, Bool, true, false, length, slice_index_or}

-- the shares from a on and below b are quiet
abbrev pub AreQuiet : List Bool → ℕ → ℕ → Type 0
AreQuiet quiet a b = (j : ℕ) → a ≤ j → j < b → slice_index_or quiet j true ≡ true

-- every share is quiet
abbrev pub AllQuiet : List Bool → Type 0
AllQuiet quiet = AreQuiet quiet 0 (length quiet)

-- the first share from `start` on, cyclically, that is not quiet
abbrev pub IsFirst : List Bool → ℕ → ℕ → Type 0
IsFirst quiet start task = (task < length quiet) × (slice_index_or quiet task true ≡ false)
    × (((start ≤ task) × AreQuiet quiet start task) ⊎ ((task < start) × AreQuiet quiet start (length quiet) × AreQuiet quiet 0 task))

-- the same, from a number modulo the number of shares
abbrev pub IsTask : List Bool → ℕ → ℕ → Type 0
IsTask quiet from task = IsFirst quiet (from % length quiet) task

-- Chains with one part more.
use Rattle.std.specs.Prelude.{◌≡◌, List, [], ◌∷◌, ◌++◌, Result, Ok, Err}

-- the parts of a chain with one more; what is no chain is the first part of one
abbrev pub IsGrown : {T P : Type 0} → Result (T × List P) T → P → (T × List P) → Type 0
IsGrown (Ok chain) part r = (r.0 ≡ chain.0) × (r.1 ≡ chain.1 ++ part ∷ [])
IsGrown (Err other) part r = (r.0 ≡ other) × (r.1 ≡ part ∷ [])

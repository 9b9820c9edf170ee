-- Sums over lists.
use Rattle.std.specs.Prelude.{ℕ, ◌+◌, List, [], ◌∷◌}
pub use Rattle.opt_core.specs.Runs.{placed_from}
use Rattle.opt_gate.specs.Lists.{by_length}

module _ {A : Type 0} where
  -- the sum of a number of each
  abbrev pub total : (A → ℕ) → List A → ℕ
  total f [] = 0
  total f (v ∷ vs) = f v + total f vs

  -- the shorter of two lists
  abbrev pub shorter : List A → List A → List A
  shorter a b = by_length a b b a

-- Lists of entries, and entries with their places.
use Rattle.std.specs.Prelude.{◌≡◌, ℕ, ◌+◌, List, [], ◌∷◌, Option, Some, None, cond, ◌==◌, nat_le, nat_lt, length}
use mathlib.Core.Option.{some}
use lib.ListN.{get_elem?}
pub use Rattle.opt_system.specs.Batch.{StartsWith}

module _ {A : Type 0} where
  -- each entry is in the list at its place
  abbrev pub AllAt : List A → List (ℕ × A) → Type 0
  AllAt list [] = Unit {0}
  AllAt list (x ∷ xs) = (get_elem? list x.0 ≡ some x.1) × AllAt list xs

  -- how often the place comes among these
  abbrev pub times : ℕ → List (ℕ × A) → ℕ
  times place [] = 0
  times place (x ∷ xs) = cond (x.0 == place) 1 0 + times place xs

  -- x where the first list is at least as long as the second, else y
  abbrev pub by_length : {B : Type 0} → List A → List A → B → B → B
  by_length a b x y = cond (nat_le (length b) (length a)) x y

  -- the longer of two lists
  abbrev pub longer : List A → List A → List A
  longer a b = by_length a b a b

module _ {E : Type 0} where
  -- the first of two that is there
  abbrev pub either_of : Option E → Option E → Option E
  either_of (Some x) y = Some x
  either_of None y = y

module _ {A E : Type 0} where
  -- the ending of two that go with two lists, that of the longer list first
  abbrev pub ending_of_both : List A → List A → Option E → Option E → Option E
  ending_of_both a b x y = either_of (by_length a b x y) (by_length a b y x)

-- 1 for a place below n, else 0
abbrev pub once_below : ℕ → ℕ → ℕ
once_below place n = cond (nat_lt place n) 1 0

-- The variables that were told, in order: what is known is taken back by them.
use Rattle.std.specs.Prelude.{◌≡◌, ℕ, ◌<◌, List, [], ◌∷◌, ◌++◌, length, None, slice_set, All}
use Rattle.gp_syntax.specs.Assigned.{PartialAssignment}

-- these variables have no value
abbrev pub cleared : List ℕ → PartialAssignment → PartialAssignment
cleared [] a = a
cleared (x ∷ xs) a = let b = cleared xs a in record b { values = slice_set b.values x None }

-- a became b, and these variables were put behind the others: without their values b is a again
pub record Grown (a b : PartialAssignment) (before after : List ℕ) : Type 0 where
  pub types : b.types ≡ a.types
  pub added : List ℕ
  pub trail : after ≡ before ++ added
  pub places : All (λ x. x < length a.types) added
  pub back : cleared added b ≡ a

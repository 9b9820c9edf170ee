-- Comparisons of integers.
use Rattle.std.specs.Prelude.{◌≡◌, ℤ, Bool}
use Rattle.gp_syntax.specs.declared.kinds.Comparison.{Comparison}
use Rattle.gp_syntax.specs.Truth.{compared}
use Rattle.gp_syntax.specs.Value.{Valued, Value, ◌>>=◌, number}
use Rattle.gp_eval.specs.inside.Chains.{Values, counted, listed}

-- a list of one integer, if there is a value
abbrev pub IsListed : Values → Type 0
IsListed v = v ≡ listed (counted v)

-- how two values compare
abbrev pub compared_values : Comparison → Values → Values → Valued Bool
compared_values op v w = v >>= λ a. w >>= λ b. Value (compared op a b)

abbrev pub compared_integers : Comparison → Valued ℤ → Valued ℤ → Valued Bool
compared_integers op v w = v >>= λ x. w >>= λ y. Value (compared op (number x) (number y))

-- the integers tell it
abbrev pub IsByIntegers : Comparison → Values → Values → Type 0
IsByIntegers op v w = compared_values op v w ≡ compared_integers op (counted v) (counted w)

-- The values of numbers.
use Rattle.std.specs.Prelude.{ℕ, ◌+◌, ◌-◌, ◌*◌, ◌^◌, if◌then◌else◌, nat_le, List, [], ◌∷◌, Option, Some, None}

-- the value of digits, behind digits of this value
abbrev pub number_from : ℕ → List ℕ → ℕ
number_from n [] = n
number_from n (b ∷ digits) = number_from (n * 10 + (b - 48)) digits

-- the value of digits in decimal: 48 is `0`
abbrev pub number_of : List ℕ → ℕ
number_of digits = number_from 0 digits

-- the value, where it is no more than 2 ^ 127
abbrev pub checked_number : List ℕ → Option ℕ
checked_number digits = if nat_le (number_of digits) (2 ^ 127) then Some (number_of digits) else None

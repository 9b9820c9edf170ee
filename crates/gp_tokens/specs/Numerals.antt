-- Integers as they are spelled.
use Rattle.std.specs.Prelude.{ℕ, ℤ, pos, neg_ℤ, ◌^◌, nat_lt, nat_le, if◌then◌else◌, Option, Some, None, Bool, true, false}
use Rattle.gp_tokens.specs.declared.numeral.Numeral.{Numeral}

-- an integer of 128 bits: at most 2^127 - 1, and 2^127 behind a minus
abbrev pub signed : Bool → ℕ → Option ℤ
signed true n = if nat_le n (2 ^ 127) then Some (neg_ℤ (pos n)) else None
signed false n = if nat_lt n (2 ^ 127) then Some (pos n) else None

abbrev pub integer_of : Numeral → Option ℤ
integer_of n = signed n.negative n.value

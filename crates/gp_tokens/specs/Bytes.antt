-- The classes of bytes.
use Rattle.std.specs.Prelude.{ℕ, Bool, not, ◌&&◌, ◌||◌, ◌==◌, nat_le}
use Rattle.std.specs.Char.{is_ascii_digit, is_ascii_alphanumeric}

-- space, tab, carriage return and line feed separate tokens
abbrev pub is_blank : ℕ → Bool
is_blank b = b == 32 || b == 9 || b == 13 || b == 10

abbrev pub is_digit : ℕ → Bool
is_digit b = is_ascii_digit b

-- letters, digits and `_`
abbrev pub is_word_byte : ℕ → Bool
is_word_byte b = is_ascii_alphanumeric b || b == 95

-- what stands in a string: 32 to 126, without the quote
abbrev pub is_string_byte : ℕ → Bool
is_string_byte b = nat_le 32 b && nat_le b 126 && not (b == 34)

-- what stands in a comment `//`: any byte but the line feed
abbrev pub is_line_byte : ℕ → Bool
is_line_byte b = not (b == 10)

-- The lines of a text, counted from 1.
use Rattle.std.specs.Prelude.{ℕ, ◌+◌, Bool, ◌==◌, List, length, take, count_by, Option, Some, None, slice_get}
use Rattle.gp_tokens.specs.declared.token.Token.{Token}

abbrev pub is_line_feed : ℕ → Bool
is_line_feed b = b == 10

-- the line on which this offset lies: one more than the line feeds before it
abbrev pub line_at : List ℕ → ℕ → ℕ
line_at text at = 1 + count_by is_line_feed (take at text)

-- where a token begins, and without one the end of the text
abbrev pub start_of : List ℕ → Option Token → ℕ
start_of text (Some t) = t.start
start_of text None = length text

-- the line of the token at this place, counted from 0; past the last token it is the line on which the text ends
abbrev pub token_line : List ℕ → List Token → ℕ → ℕ
token_line text tokens place = line_at text (start_of text (slice_get tokens place))

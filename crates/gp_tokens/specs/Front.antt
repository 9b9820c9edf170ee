-- What stands at the front of a text, as `lex` finds it. No promise rests on it: the laws tie it to `Cut`.
use Rattle.std.specs.Prelude.{ℕ, suc, ◌+◌, Bool, true, ◌&&◌, if◌then◌else◌, ◌==◌, nat_lt, ◌<◌, ◌≤◌, List, [], ◌∷◌, take, drop, length, slice_index, Option, Some, None, option_map}
use Rattle.std.specs.List.{prefix_len}
use Rattle.gp_tokens.specs.declared.fault.LexFault.TheVariants as fault
use Rattle.gp_tokens.specs.declared.front.Class.{Class}
use Rattle.gp_tokens.specs.declared.front.Class.TheVariants as class
use Rattle.gp_tokens.specs.declared.front.First.{First}
use Rattle.gp_tokens.specs.declared.front.First.TheVariants as f
use Rattle.gp_tokens.specs.declared.token.Kind.{Kind}
use Rattle.gp_tokens.specs.declared.token.Kind.TheVariants as k
use Rattle.gp_tokens.specs.Bytes.{is_blank, is_digit, is_word_byte, is_line_byte, is_string_byte}
use Rattle.gp_tokens.specs.Numbers.{checked_number}
pub use Rattle.gp_tokens.specs.Signs.{other_signs, signs}

abbrev pub is_in : Class → ℕ → Bool
is_in class.Digit b = is_digit b
is_in class.Word b = is_word_byte b
is_in class.Line b = is_line_byte b
is_in class.String b = is_string_byte b

-- the length of the longest run
abbrev pub run : Class → List ℕ → ℕ
run c text = prefix_len (is_in c) text

-- behind `/*`: the length up to and with the next `*/`
abbrev pub comment_end : List ℕ → Option ℕ
comment_end [] = None
comment_end (b ∷ text) = if b == 42 && slice_index text 0 == 47 then Some 2 else option_map suc (comment_end text)

-- the sign begins with these two bytes, or is the first of them
abbrev pub stands : ℕ → ℕ → List ℕ → Bool
stands b next sign = b == slice_index sign 0 && (if nat_lt 1 (length sign) then next == slice_index sign 1 else true)

-- the first of the signs that stands there, and its length
abbrev pub first_fit : ℕ → ℕ → List (Kind × List ℕ) → Option (Kind × ℕ)
first_fit b next [] = None
first_fit b next (s ∷ others) = if stands b next s.1 then Some (s.0, length s.1) else first_fit b next others

-- the longest sign that fits, and its length
abbrev pub sign : ℕ → ℕ → Option (Kind × ℕ)
sign b next = first_fit b next signs

abbrev pub number_token : ℕ → ℕ → Option ℕ → First
number_token at len None = f.Fault (fault.NumberTooLong at)
number_token at len (Some value) = f.Token k.Number len

-- a number has digits alone
abbrev pub word : ℕ → List ℕ → First
word at text =
    let len = run class.Word text in
    if nat_lt (run class.Digit (take len text)) len then f.Token k.Word len else number_token at len (checked_number (take len text))

abbrev pub string : ℕ → List ℕ → First
string at text =
    let len = run class.String (drop 1 text) in
    if len == length (drop 1 text) then f.Fault (fault.OpenString at)
    else (if slice_index (drop 1 text) len == 34 then f.Token k.String (len + 2) else f.Fault (fault.BadByte (at + len + 1)))

abbrev pub comment_of : ℕ → Option ℕ → First
comment_of at None = f.Fault (fault.OpenComment at)
comment_of at (Some len) = f.Skip (len + 2)

abbrev pub comment : ℕ → List ℕ → First
comment at text = comment_of at (comment_end (drop 2 text))

abbrev pub signed : ℕ → Option (Kind × ℕ) → First
signed at None = f.Fault (fault.BadByte at)
signed at (Some s) = f.Token s.0 s.1

-- What stands at the front of a text that begins at this offset: something to skip, a token, or a fault.
unfoldable pub front : ℕ → List ℕ → First
front at text =
    let b = slice_index text 0 in
    let next = slice_index text 1 in
    if is_blank b then f.Skip 1
    else (if b == 47 && next == 47 then f.Skip (run class.Line text)
    else (if b == 47 && next == 42 then comment at text
    else (if is_in class.Word b then word at text
    else (if b == 34 then string at text
    else signed at (sign b next)))))

abbrev pub IsWithin : ℕ → First → Type 0
IsWithin most (f.Skip len) = (0 < len) × (len ≤ most)
IsWithin most (f.Token kind len) = (0 < len) × (len ≤ most)
IsWithin most (f.Fault _) = Unit {0}

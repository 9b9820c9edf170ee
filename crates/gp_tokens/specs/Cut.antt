-- What it is to be the tokens of a text.
use Rattle.std.specs.Prelude.{◌≡◌, ℕ, ◌+◌, ◌^◌, ◌<◌, ◌≤◌, ◌⊎◌, true, false, List, [], ◌∷◌, ◌++◌, take, drop, length, slice_index, slice_index_or, codes, Contains}
use Rattle.std.specs.List.{list_all, slice_range}
use Rattle.gp_tokens.specs.declared.fault.LexFault.{LexFault}
use Rattle.gp_tokens.specs.declared.fault.LexFault.TheVariants as fault
use Rattle.gp_tokens.specs.declared.token.Kind.{Kind}
use Rattle.gp_tokens.specs.declared.token.Kind.TheVariants as k
use Rattle.gp_tokens.specs.declared.token.Token.{Token}
use Rattle.gp_tokens.specs.Bytes.{is_blank, is_digit, is_word_byte, is_line_byte, is_string_byte}
use Rattle.gp_tokens.specs.Signs.{signs}
use Rattle.gp_tokens.specs.Numbers.{number_of}

-- ---- what stands between tokens. Each says what the bytes up to a rest are.

-- a comment `//`, which ends before the next line feed or at the end of the text
pub record IsLineComment (text rest : List ℕ) : Type 0 where
  pub comment : List ℕ
  pub spelled : text ≡ comment ++ rest
  pub begins : take 2 comment ≡ codes "//"
  pub one_line : list_all is_line_byte comment ≡ true
  pub ends : is_line_byte (slice_index_or rest 0 10) ≡ false

-- what stands behind `/*`: the bytes up to and with the first `*/`
pub data EndsComment : List ℕ → List ℕ → Type 0 where
  closes : {rest : List ℕ} → EndsComment (42 ∷ 47 ∷ rest) rest
  goes_on : {b : ℕ} {text rest : List ℕ} → (take 2 (b ∷ text) ≡ codes "*/" → ⊥) → EndsComment text rest → EndsComment (b ∷ text) rest

-- nothing but blanks and whole comments
pub data IsGap : List ℕ → List ℕ → Type 0 where
  nothing : {rest : List ℕ} → IsGap rest rest
  blank : {b : ℕ} {text rest : List ℕ} → is_blank b ≡ true → IsGap text rest → IsGap (b ∷ text) rest
  line_comment : {text mid rest : List ℕ} → IsLineComment text mid → IsGap mid rest → IsGap text rest
  comment : {text mid rest : List ℕ} → EndsComment text mid → IsGap mid rest → IsGap (47 ∷ 42 ∷ text) rest

-- ---- tokens

abbrev pub BeginsComment : List ℕ → Type 0
BeginsComment text = (take 2 text ≡ codes "//") ⊎ (take 2 text ≡ codes "/*")

-- no sign of the table that the text begins with is longer
abbrev pub HasNoLongerSign : ℕ → List ℕ → Type 0
HasNoLongerSign len text = (s : Kind × List ℕ) → Contains signs s → take (length s.1) text ≡ s.1 → length s.1 ≤ len

-- How a token of this kind is spelled, and that what comes behind it makes it no longer.
pub data IsSpelled : Kind → List ℕ → List ℕ → Type 0 where
  number : {text behind : List ℕ} → list_all is_digit text ≡ true → number_of text ≤ 2 ^ 127 → is_word_byte (slice_index behind 0) ≡ false → IsSpelled k.Number text behind
  word : {text behind : List ℕ} → list_all is_word_byte text ≡ true → list_all is_digit text ≡ false → is_word_byte (slice_index behind 0) ≡ false → IsSpelled k.Word text behind
  string : (inner : List ℕ) {behind : List ℕ} → list_all is_string_byte inner ≡ true → IsSpelled k.String (34 ∷ inner ++ 34 ∷ []) behind
  sign : {kind : Kind} {text behind : List ℕ} → Contains signs (kind, text) → HasNoLongerSign (length text) (text ++ behind) → (BeginsComment (text ++ behind) → ⊥) → IsSpelled kind text behind

-- the offset behind a token
abbrev pub end_of : Token → ℕ
end_of t = t.start + length t.text

-- A token of the source: the slice at its span, spelled as its kind is, and no longer one stands there.
pub record IsTokenOf (source : List ℕ) (t : Token) : Type 0 where
  pub some : 0 < length t.text
  pub within : end_of t ≤ length source
  pub slice : t.text ≡ slice_range source t.start (end_of t)
  pub spelled : IsSpelled t.kind t.text (drop (end_of t) source)

-- From this offset on: the tokens in order, none over another, with gaps before, between and behind them.
pub data IsCutFrom (source : List ℕ) : ℕ → List Token → Type 0 where
  ends : {at : ℕ} → IsGap (drop at source) [] → IsCutFrom source at []
  next : {at : ℕ} {t : Token} {ts : List Token} → at ≤ t.start → IsGap (drop at source) (drop t.start source) → IsTokenOf source t → IsCutFrom source (end_of t) ts → IsCutFrom source at (t ∷ ts)

abbrev pub IsCutOf : List ℕ → List Token → Type 0
IsCutOf source tokens = IsCutFrom source 0 tokens

-- a number has a value that is no more than 2 ^ 127
abbrev pub IsInRange : Token → Type 0
IsInRange t = t.kind ≡ k.Number → number_of t.text ≤ 2 ^ 127

-- ---- faults

-- What stands here is no blank, no whole comment and no token, and this is why. The text begins at this offset.
pub data IsStuck : ℕ → List ℕ → LexFault → Type 0 where
  bad_byte : {at b : ℕ} {text : List ℕ} → is_blank b ≡ false → is_word_byte b ≡ false → (b ≡ 34 → ⊥) → ((s : Kind × List ℕ) → Contains signs s → take (length s.1) (b ∷ text) ≡ s.1 → ⊥) → IsStuck at (b ∷ text) (fault.BadByte at)
  bad_byte_in_string : {at : ℕ} (inner : List ℕ) (b : ℕ) (text : List ℕ) → list_all is_string_byte inner ≡ true → is_string_byte b ≡ false → (b ≡ 34 → ⊥) → IsStuck at (34 ∷ inner ++ b ∷ text) (fault.BadByte (at + length inner + 1))
  open_string : {at : ℕ} {inner : List ℕ} → list_all is_string_byte inner ≡ true → IsStuck at (34 ∷ inner) (fault.OpenString at)
  open_comment : {at : ℕ} {text : List ℕ} → ((front behind : List ℕ) → text ≡ front ++ 42 ∷ 47 ∷ behind → ⊥) → IsStuck at (47 ∷ 42 ∷ text) (fault.OpenComment at)
  number_too_long : {at : ℕ} (text behind : List ℕ) → list_all is_digit text ≡ true → 2 ^ 127 < number_of text → is_word_byte (slice_index behind 0) ≡ false → IsStuck at (text ++ behind) (fault.NumberTooLong at)

-- From this offset on: tokens with gaps between them, and then the fault.
pub data IsFaultFrom (source : List ℕ) : ℕ → LexFault → Type 0 where
  here : {at stop : ℕ} {e : LexFault} → at ≤ stop → IsGap (drop at source) (drop stop source) → IsStuck stop (drop stop source) e → IsFaultFrom source at e
  later : {at : ℕ} {t : Token} {e : LexFault} → at ≤ t.start → IsGap (drop at source) (drop t.start source) → IsTokenOf source t → IsFaultFrom source (end_of t) e → IsFaultFrom source at e

-- the first fault from the front
abbrev pub IsFaultOf : List ℕ → LexFault → Type 0
IsFaultOf source e = IsFaultFrom source 0 e

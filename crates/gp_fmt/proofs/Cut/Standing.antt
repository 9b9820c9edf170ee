-- A well-spelled token stands at the front of a text that begins with it and goes on with no word, number or longer sign.
use Rattle.std.proofs.Common.{◌≡◌, ℕ, ◌^◌, ◌<◌, ◌≤◌, Bool, true, false, List, ◌++◌, length, decimal, refl, arith}
use Rattle.std.specs.Prelude.{◌&&◌, ◌==◌, not, if◌then◌else◌, nat_lt, slice_index, Contains}
use Rattle.std.specs.List.{list_all}
use Rattle.gp_memory.proofs.Basics.{both, not_true}
use Rattle.gp_tokens.specs.declared.front.First.TheVariants as f
use Rattle.gp_tokens.specs.declared.keyword.Keyword.{Keyword}
use Rattle.gp_tokens.specs.declared.keyword.Keyword.TheVariants as words
use Rattle.gp_tokens.specs.declared.token.Kind.{Kind}
use Rattle.gp_tokens.specs.declared.token.Kind.TheVariants as k
use Rattle.gp_tokens.specs.Bytes.{is_digit, is_word_byte}
use Rattle.gp_tokens.specs.Front.{front}
use Rattle.gp_tokens.specs.Numbers.{number_of}
use Rattle.gp_tokens.specs.Signs.{signs}
use Rattle.gp_tokens.specs.Words.{keyword_text}
use Rattle.gp_tokens.proofs.Numerals.{decimal_some, decimal_digits, decimal_value}
use Rattle.gp_tokens.proofs.Pieces.{word, Stands}
use Rattle.gp_tokens.proofs.Runs.{passes}
use Rattle.gp_tokens.proofs.Stands.{word_stands, number_stands, string_stands}
use Rattle.gp_values.specs.Names.{Name}
use Rattle.gp_fmt.specs.declared.piece.Piece.{Piece}
use Rattle.gp_fmt.specs.declared.piece.Piece.TheVariants as p
use Rattle.gp_fmt.specs.Pieces.{sign_text, text_of, kind_of}
use Rattle.gp_fmt.specs.Spaces.{joins_next}
use Rattle.gp_fmt.specs.inside.Spelled.{IsWordText, IsWellSpelled}
use Rattle.gp_fmt.proofs.Cut.Behind.{Ends}

-- ---- the byte behind

-- what such a byte is not
record IsNone (b : ℕ) : Type 0 where
  word : is_word_byte b ≡ false
  equal : (b == 61) ≡ false
  greater : (b == 62) ≡ false
  slash : (b == 47) ≡ false
  star : (b == 42) ≡ false

is_none : (behind : List ℕ) → Ends behind → IsNone (slice_index behind 0)
is_none behind h =
    let b = slice_index behind 0 in
    let one = both (not (is_word_byte b)) (not (b == 61) && (not (b == 62) && (not (b == 47) && not (b == 42)))) h in
    let two = both (not (b == 61)) (not (b == 62) && (not (b == 47) && not (b == 42))) one.1 in
    let three = both (not (b == 62)) (not (b == 47) && not (b == 42)) two.1 in
    let four = both (not (b == 47)) (not (b == 42)) three.1 in
    record { word = not_true _ one.0; equal = not_true _ two.0; greater = not_true _ three.0; slash = not_true _ four.0; star = not_true _ four.1 }

-- ---- signs

abbrev Fits : Kind → List ℕ → Type 0
Fits kind behind = (at : ℕ) → front at (sign_text kind ++ behind) ≡ f.Token kind (length (sign_text kind))

less_fits : (behind : List ℕ) → IsNone (slice_index behind 0) → Fits k.Less behind
unfolding front
less_fits behind none at = rw (none.equal) refl

greater_fits : (behind : List ℕ) → IsNone (slice_index behind 0) → Fits k.Greater behind
unfolding front
greater_fits behind none at = rw (none.equal) refl

exclamation_fits : (behind : List ℕ) → IsNone (slice_index behind 0) → Fits k.Exclamation behind
unfolding front
exclamation_fits behind none at = rw (none.equal) refl

equal_fits : (behind : List ℕ) → IsNone (slice_index behind 0) → Fits k.Equal behind
unfolding front
equal_fits behind none at = rw (none.greater) refl

slash_fits : (behind : List ℕ) → IsNone (slice_index behind 0) → Fits k.Slash behind
unfolding front
slash_fits behind none at = rw (none.slash, none.star) refl

no_text : (kind : Kind) → nat_lt 0 (length (sign_text kind)) ≡ false → Contains signs (kind, sign_text kind) → ⊥
no_text kind e c =
    let some : nat_lt 0 (length (sign_text kind)) ≡ true = passes (λ (s : Kind × List ℕ). nat_lt 0 (length s.1)) signs refl (kind, sign_text kind) c in
    cc

-- of the others each is the longest sign that begins so, whatever comes behind
sign_fits : (kind : Kind) → Contains signs (kind, sign_text kind) → (behind : List ℕ) → (joins_next (p.Sign kind) ≡ false → IsNone (slice_index behind 0)) → Fits kind behind
unfolding front
sign_fits k.Less c behind none = less_fits behind (none refl)
sign_fits k.Greater c behind none = greater_fits behind (none refl)
sign_fits k.Exclamation c behind none = exclamation_fits behind (none refl)
sign_fits k.Equal c behind none = equal_fits behind (none refl)
sign_fits k.Slash c behind none = slash_fits behind (none refl)
sign_fits k.Number c behind none = absurd (no_text k.Number refl c)
sign_fits k.Word c behind none = absurd (no_text k.Word refl c)
sign_fits k.String c behind none = absurd (no_text k.String refl c)
sign_fits other c behind none = λ at. refl

sign_some : (kind : Kind) → Contains signs (kind, sign_text kind) → 0 < length (sign_text kind)
sign_some k.Number c = absurd (no_text k.Number refl c)
sign_some k.Word c = absurd (no_text k.Word refl c)
sign_some k.String c = absurd (no_text k.String refl c)
sign_some other c = omega arith

minus_fits : (behind : List ℕ) → Fits k.Minus behind
unfolding front
minus_fits behind at = refl

-- ---- words and numbers

record IsKeywordText (text : List ℕ) : Type 0 where
  some : 0 < length text
  word : list_all is_word_byte text ≡ true
  no_number : list_all is_digit text ≡ false

keyword_spelled : (w : Keyword) → IsKeywordText (keyword_text w)
keyword_spelled words.Interface = record { some = omega arith; word = refl; no_number = refl }
keyword_spelled other = record { some = omega arith; word = refl; no_number = refl }

keyword_stands : (w : Keyword) (behind : List ℕ) → is_word_byte (slice_index behind 0) ≡ false → Stands (word k.Word (keyword_text w)) behind
keyword_stands w behind stop = let s = keyword_spelled w in word_stands (keyword_text w) behind s.some s.word s.no_number stop

name_stands : (name : Name) → IsWordText name → (behind : List ℕ) → is_word_byte (slice_index behind 0) ≡ false → Stands (word (if list_all is_digit name then k.Number else k.Word) name) behind
name_stands name spelled behind stop = go (list_all is_digit name) refl
  where
    go : (b : Bool) → list_all is_digit name ≡ b → Stands (word (if b then k.Number else k.Word) name) behind
    go true e = number_stands name behind spelled.some e (spelled.value e) stop
    go false e = word_stands name behind spelled.some spelled.word e stop

decimal_stands : (n : ℕ) → n ≤ 2 ^ 127 → (behind : List ℕ) → is_word_byte (slice_index behind 0) ≡ false → Stands (word k.Number (decimal n)) behind
decimal_stands n small behind stop =
    let short : n < 10 ^ 64 = omega arith in
    let value : number_of (decimal n) ≤ 2 ^ 127 = omega (arith, decimal_value n short) in
    number_stands (decimal n) behind (decimal_some n short) (decimal_digits n short) value stop

-- ---- all of them

pub piece_stands : (x : Piece) → IsWellSpelled x → (behind : List ℕ) → (joins_next x ≡ false → Ends behind) → Stands (word (kind_of x) (text_of x)) behind
piece_stands (p.Sign kind) c behind ends = (sign_some kind c, sign_fits kind c behind (λ apart. is_none behind (ends apart)))
piece_stands p.Negation c behind ends = (omega arith, minus_fits behind)
piece_stands (p.Word w) c behind ends = let none = is_none behind (ends refl) in keyword_stands w behind none.word
piece_stands (p.Name name) c behind ends = let none = is_none behind (ends refl) in name_stands name c behind none.word
piece_stands (p.Number n) c behind ends = let none = is_none behind (ends refl) in decimal_stands n c behind none.word
piece_stands (p.String characters) c behind ends = string_stands characters behind c

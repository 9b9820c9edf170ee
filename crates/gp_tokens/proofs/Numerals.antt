-- Decimal numbers as texts of tokens, and names made of a letter and such a number.
use Rattle.std.proofs.Common.{◌≡◌, ℕ, ◌^◌, ◌<◌, Bool, true, false, not, List, [], ◌∷◌, length, refl, sym, ap, subst, ◌∙◌, arith, decimal}
use Rattle.std.specs.Prelude.{◌&&◌, ◌||◌, slice_index}
use Rattle.std.specs.Str.{all_ascii_digits, bytes_eq}
use Rattle.std.specs.List.{list_all}
use Rattle.std.proofs.lemmas.Slice.Eq.{bytes_eq-Decides}
use Rattle.std.proofs.lemmas.Fmt.{decimal_is_IsNumeral_wide}
use Rattle.std.proofs.lemmas.Str.Parse.{IsNumeralModel, numerals_by_fold, tells_all_ascii_digits}
use Rattle.gp_tokens.specs.declared.keyword.Keyword.{Keyword}
use Rattle.gp_tokens.specs.Bytes.{is_digit, is_word_byte}
use Rattle.gp_tokens.specs.Numbers.{number_from, number_of}
use Rattle.gp_tokens.specs.Words.{keyword_text, reserved, is_among, is_reserved}
use Rattle.gp_tokens.proofs.Stands.{first_passes, digits_in_word}

abbrev numerals : IsNumeralModel (λ ds. all_ascii_digits ds ≡ true) number_of
numerals = numerals_by_fold _ tells_all_ascii_digits number_from (record { empty = λ n. refl; more = λ n c cs k. refl })

all_digits : (ds : List ℕ) → all_ascii_digits ds ≡ list_all is_digit ds
all_digits [] = refl
all_digits (d ∷ ds) = ap (λ b. is_digit d && b) (all_digits ds)

-- a number of at most 64 digits
module _ (n : ℕ) (small : n < 10 ^ 64) where
  pub decimal_some : 0 < length (decimal n)
  decimal_some = (decimal_is_IsNumeral_wide n small).0.0

  pub decimal_digits : list_all is_digit (decimal n) ≡ true
  decimal_digits = sym (all_digits (decimal n)) ∙ numerals.from (decimal n) (decimal_is_IsNumeral_wide n small).0.1

  pub decimal_value : number_of (decimal n) ≡ n
  decimal_value = numerals.same (decimal n) (decimal_is_IsNumeral_wide n small).0.1 ∙ (decimal_is_IsNumeral_wide n small).1

  -- a letter and the number
  pub name_in_word : (letter : ℕ) → is_word_byte letter ≡ true → list_all is_word_byte (letter ∷ decimal n) ≡ true
  name_in_word letter h = rw (h, digits_in_word (decimal n) decimal_digits) refl

  pub name_no_number : (letter : ℕ) → is_digit letter ≡ false → list_all is_digit (letter ∷ decimal n) ≡ false
  name_no_number letter h = rw h refl

pub decimal_apart : (m n : ℕ) → m < 10 ^ 64 → n < 10 ^ 64 → decimal m ≡ decimal n → m ≡ n
decimal_apart m n p q e = sym (decimal_value m p) ∙ ap number_of e ∙ decimal_value n q

-- ---- no reserved word has a digit at its second place

not_among : (words : List Keyword) (c d : ℕ) (ds : List ℕ) → is_digit d ≡ true → list_all (λ w. not (is_digit (slice_index (keyword_text w) 1))) words ≡ true → is_among (c ∷ d ∷ ds) words ≡ false
not_among [] c d ds digit h = refl
not_among (w ∷ words) c d ds digit h = go (is_digit (slice_index (keyword_text w) 1)) refl h (λ h. not_among words c d ds digit h)
  where
    here : is_digit (slice_index (keyword_text w) 1) ≡ false → (b : Bool) → bytes_eq (keyword_text w) (c ∷ d ∷ ds) ≡ b → b ≡ false
    here none false e = refl
    here none true e =
        let same : keyword_text w ≡ c ∷ d ∷ ds = (bytes_eq-Decides (keyword_text w) (c ∷ d ∷ ds)).0 e in
        let wrong : is_digit d ≡ false = subst (λ t. is_digit (slice_index t 1) ≡ false) same none in
        absurd cc

    go : (b : Bool) → is_digit (slice_index (keyword_text w) 1) ≡ b → (not b && list_all (λ w. not (is_digit (slice_index (keyword_text w) 1))) words) ≡ true
        → (list_all (λ w. not (is_digit (slice_index (keyword_text w) 1))) words ≡ true → is_among (c ∷ d ∷ ds) words ≡ false) → (bytes_eq (keyword_text w) (c ∷ d ∷ ds) || is_among (c ∷ d ∷ ds) words) ≡ false
    go true e h below = absurd cc
    go false e h below = rw (here e (bytes_eq (keyword_text w) (c ∷ d ∷ ds)) refl, below h) refl

pub digit_is_free : (text : List ℕ) → 1 < length text → is_digit (slice_index text 1) ≡ true → is_reserved text ≡ false
digit_is_free [] some h = absurd (omega arith)
digit_is_free (c ∷ []) some h = absurd (omega arith)
digit_is_free (c ∷ d ∷ ds) some h = not_among reserved c d ds h refl

free : (letter : ℕ) (ds : List ℕ) → 0 < length ds → list_all is_digit ds ≡ true → is_reserved (letter ∷ ds) ≡ false
free letter [] some h = absurd (omega arith)
free letter (d ∷ ds) some h = not_among reserved letter d ds (first_passes is_digit d ds h) refl

pub name_is_free : (letter n : ℕ) → n < 10 ^ 64 → is_reserved (letter ∷ decimal n) ≡ false
name_is_free letter n small = free letter (decimal n) (decimal_some n small) (decimal_digits n small)

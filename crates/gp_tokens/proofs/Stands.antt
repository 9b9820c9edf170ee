-- What stands at the front of signs, blanks, words, numbers and strings.
use Rattle.std.proofs.Common.{◌≡◌, ℕ, suc, ◌+◌, ◌^◌, ◌<◌, ◌≤◌, Bool, true, false, cond, List, [], ◌∷◌, ◌++◌, length, take, refl, ap, subst, ◌∙◌, append_assoc, arith, length-append}
use Rattle.std.specs.Prelude.{if◌then◌else◌, slice_index, ◌==◌, ◌&&◌, nat_lt}
use Rattle.std.specs.List.{prefix_len, list_all}
use Rattle.std.proofs.Math.Seq.{take-append_seam, get_or-append_seam}
use Rattle.std.proofs.lemmas.Bool.{ltb-true, lt-ltb, le-leb, ne_eqb}
use Rattle.std.proofs.lemmas.Bool.Decides.{Decides-eqb}
use Rattle.gp_tokens.specs.declared.fault.LexFault.TheVariants as fault
use Rattle.gp_tokens.specs.declared.front.Class.TheVariants as class
use Rattle.gp_tokens.specs.declared.front.First.{First}
use Rattle.gp_tokens.specs.declared.front.First.TheVariants as f
use Rattle.gp_tokens.specs.declared.token.Kind.{Kind}
use Rattle.gp_tokens.specs.declared.token.Kind.TheVariants as k
use Rattle.gp_tokens.specs.Bytes.{is_digit, is_word_byte, is_string_byte}
use Rattle.gp_tokens.specs.Front.{front, run, word as front_word, number_token}
use Rattle.gp_tokens.specs.Numbers.{number_of, checked_number}
use Rattle.gp_tokens.proofs.Pieces.{blank, word, Stands}

pub space_stands : (behind : List ℕ) → Stands (blank 32) behind
unfolding front
space_stands behind at = refl

pub feed_stands : (behind : List ℕ) → Stands (blank 10) behind
unfolding front
feed_stands behind at = refl

-- a kind of signs of one byte that no byte behind makes longer
pub record IsLone (kind : Kind) (b : ℕ) : Type 0 where
  pub fits : (behind : List ℕ) (at : ℕ) → front at (b ∷ behind) ≡ f.Token kind 1

pub sign_stands : (kind : Kind) (b : ℕ) → IsLone kind b → (behind : List ℕ) → Stands (word kind (b ∷ [])) behind
sign_stands kind b lone behind = (omega arith, λ at. lone.fits behind at)

pub open_lone : IsLone k.OpenParenthesis 40
unfolding front
open_lone = record { fits = λ behind at. refl }

pub close_lone : IsLone k.CloseParenthesis 41
unfolding front
close_lone = record { fits = λ behind at. refl }

pub open_bracket_lone : IsLone k.OpenBracket 91
unfolding front
open_bracket_lone = record { fits = λ behind at. refl }

pub close_bracket_lone : IsLone k.CloseBracket 93
unfolding front
close_bracket_lone = record { fits = λ behind at. refl }

pub comma_lone : IsLone k.Comma 44
unfolding front
comma_lone = record { fits = λ behind at. refl }

pub colon_lone : IsLone k.Colon 58
unfolding front
colon_lone = record { fits = λ behind at. refl }

pub minus_lone : IsLone k.Minus 45
unfolding front
minus_lone = record { fits = λ behind at. refl }

pub hash_lone : IsLone k.Hash 35
unfolding front
hash_lone = record { fits = λ behind at. refl }

pub bar_lone : IsLone k.Bar 124
unfolding front
bar_lone = record { fits = λ behind at. refl }

-- ---- runs

module _ (p : ℕ → Bool) where
  -- a run ends where a byte behind it does not pass
  pub run_ends : (xs behind : List ℕ) → list_all p xs ≡ true → p (slice_index behind 0) ≡ false → prefix_len p (xs ++ behind) ≡ length xs
  run_ends [] [] all stop = refl
  run_ends [] (b ∷ behind) all stop = rw stop refl
  run_ends (x ∷ xs) behind all stop = go (p x) refl all (λ h. run_ends xs behind h stop)
    where
      go : (b : Bool) → p x ≡ b → (b && list_all p xs) ≡ true → (list_all p xs ≡ true → prefix_len p (xs ++ behind) ≡ length xs) → cond (p x) (1 + prefix_len p (xs ++ behind)) 0 ≡ suc (length xs)
      go true e h below = rw (e, below h) (omega arith)
      go false e h below = absurd cc

  pub whole_run : (xs : List ℕ) → list_all p xs ≡ true → prefix_len p xs ≡ length xs
  whole_run [] all = refl
  whole_run (x ∷ xs) all = go (p x) refl all (λ h. whole_run xs h)
    where
      go : (b : Bool) → p x ≡ b → (b && list_all p xs) ≡ true → (list_all p xs ≡ true → prefix_len p xs ≡ length xs) → cond (p x) (1 + prefix_len p xs) 0 ≡ suc (length xs)
      go true e h below = rw (e, below h) (omega arith)
      go false e h below = absurd cc

  pub part_run : (xs : List ℕ) → list_all p xs ≡ false → prefix_len p xs < length xs
  part_run [] all = absurd cc
  part_run (x ∷ xs) all = go (p x) refl all (λ h. part_run xs h)
    where
      go : (b : Bool) → p x ≡ b → (b && list_all p xs) ≡ false → (list_all p xs ≡ false → prefix_len p xs < length xs) → cond (p x) (1 + prefix_len p xs) 0 < suc (length xs)
      go true e h below = let lt = below h in rw e (omega arith)
      go false e h below = rw e (omega arith)

pub first_passes : (p : ℕ → Bool) (b : ℕ) (text : List ℕ) → list_all p (b ∷ text) ≡ true → p b ≡ true
first_passes p b text h = go (p b) h
  where
    go : (t : Bool) → (t && list_all p text) ≡ true → t ≡ true
    go true h = refl
    go false h = h

-- ---- words and numbers

-- a byte of a word is none of the others
not_this : (b c : ℕ) → is_word_byte b ≡ true → is_word_byte c ≡ false → (b == c) ≡ false
not_this b c passes fails = go (b == c) refl
  where
    go : (t : Bool) → (b == c) ≡ t → t ≡ false
    go true e = let same : b ≡ c = (Decides-eqb b c).0 e in let both : is_word_byte c ≡ true = subst (λ b. is_word_byte b ≡ true) same passes in absurd cc
    go false e = refl

front_is_word : (at b : ℕ) (text : List ℕ) → is_word_byte b ≡ true → front at (b ∷ text) ≡ front_word at (b ∷ text)
unfolding front
front_is_word at b text h = rw (not_this b 32 h refl, not_this b 9 h refl, not_this b 13 h refl, not_this b 10 h refl, not_this b 47 h refl, h) refl

-- what a run of this text is, by its digits
abbrev classed : ℕ → ℕ → List ℕ → First
classed at len w = if nat_lt (run class.Digit w) len then f.Token k.Word len else number_token at len (checked_number w)

word_classed : (at : ℕ) (text behind : List ℕ) → 0 < length text → list_all is_word_byte text ≡ true → is_word_byte (slice_index behind 0) ≡ false → front at (text ++ behind) ≡ classed at (length text) text
word_classed at [] behind some all stop = absurd (omega arith)
word_classed at (b ∷ text) behind some all stop =
    let z = (b ∷ text) ++ behind in
    let len : run class.Word z ≡ length (b ∷ text) = run_ends is_word_byte (b ∷ text) behind all stop in
    let taken : take (length (b ∷ text)) z ≡ b ∷ text = take-append_seam (b ∷ text) behind in
    front_is_word at b (text ++ behind) (first_passes is_word_byte b text all) ∙ ap (λ n. classed at n (take n z)) len ∙ ap (classed at (length (b ∷ text))) taken

classed_word : (at : ℕ) (text : List ℕ) → list_all is_digit text ≡ false → classed at (length text) text ≡ f.Token k.Word (length text)
classed_word at text named = rw (lt-ltb _ _ (part_run is_digit text named)) refl

pub word_stands : (text behind : List ℕ) → 0 < length text → list_all is_word_byte text ≡ true → list_all is_digit text ≡ false → is_word_byte (slice_index behind 0) ≡ false → Stands (word k.Word text) behind
word_stands text behind some all named stop = (some, λ at. word_classed at text behind some all stop ∙ classed_word at text named)

classed_number : (at : ℕ) (text : List ℕ) → list_all is_digit text ≡ true → number_of text ≤ 2 ^ 127 → classed at (length text) text ≡ f.Token k.Number (length text)
classed_number at text digits small =
    let whole : run class.Digit text ≡ length text = whole_run is_digit text digits in
    ap (λ n. if nat_lt n (length text) then f.Token k.Word (length text) else number_token at (length text) (checked_number text)) whole
    ∙ rw (not_less (length text) (length text) (omega arith), le-leb _ _ small) refl
  where
    not_less : (m n : ℕ) → n ≤ m → nat_lt m n ≡ false
    not_less m n le = go (nat_lt m n) refl
      where
        go : (t : Bool) → nat_lt m n ≡ t → t ≡ false
        go true e = let lt = ltb-true m n e in absurd (omega arith)
        go false e = refl

digit_in_word : (b : ℕ) → is_digit b ≡ true → is_word_byte b ≡ true
digit_in_word b h = rw h refl

pub digits_in_word : (text : List ℕ) → list_all is_digit text ≡ true → list_all is_word_byte text ≡ true
digits_in_word [] h = refl
digits_in_word (b ∷ text) h = go (is_digit b) refl h (λ h. digits_in_word text h)
  where
    go : (t : Bool) → is_digit b ≡ t → (t && list_all is_digit text) ≡ true → (list_all is_digit text ≡ true → list_all is_word_byte text ≡ true) → (is_word_byte b && list_all is_word_byte text) ≡ true
    go true e h below = rw (digit_in_word b e, below h) refl
    go false e h below = absurd cc

pub number_stands : (text behind : List ℕ) → 0 < length text → list_all is_digit text ≡ true → number_of text ≤ 2 ^ 127 → is_word_byte (slice_index behind 0) ≡ false → Stands (word k.Number text) behind
number_stands text behind some digits small stop = (some, λ at. word_classed at text behind some (digits_in_word text digits) stop ∙ classed_number at text digits small)

-- ---- strings

-- what a run of this length behind a quotation mark is
abbrev closed : List ℕ → ℕ → ℕ → First
closed z at n = if n == length z then f.Fault (fault.OpenString at) else (if slice_index z n == 34 then f.Token k.String (n + 2) else f.Fault (fault.BadByte (at + n + 1)))

string_front : (at : ℕ) (inner behind : List ℕ) → list_all is_string_byte inner ≡ true → front at (34 ∷ inner ++ 34 ∷ behind) ≡ f.Token k.String (length inner + 2)
unfolding front
string_front at inner behind all =
    let z = inner ++ 34 ∷ behind in
    let len : run class.String z ≡ length inner = run_ends is_string_byte inner (34 ∷ behind) all refl in
    let size : length z ≡ length inner + suc (length behind) = length-append inner (34 ∷ behind) in
    let here : slice_index z (length inner) ≡ 34 = get_or-append_seam inner 34 behind 0 in
    ap (closed z at) len ∙ rw (ne_eqb (length inner) (length z) (λ e. omega arith), here) refl

pub string_stands : (inner behind : List ℕ) → list_all is_string_byte inner ≡ true → Stands (word k.String (34 ∷ inner ++ 34 ∷ [])) behind
string_stands inner behind all =
    let whole : (inner ++ 34 ∷ []) ++ behind ≡ inner ++ 34 ∷ behind = append_assoc inner (34 ∷ []) behind in
    let total : length inner + 2 ≡ length (34 ∷ inner ++ 34 ∷ []) = omega (arith, length-append inner (34 ∷ [])) in
    (omega arith, λ at. ap (λ t. front at (34 ∷ t)) whole ∙ string_front at inner behind all ∙ ap (f.Token k.String) total)

-- What the definitions say stands at the front of a text is what `front` finds there.
use Rattle.std.proofs.Common.{◌≡◌, ℕ, suc, ◌+◌, ◌^◌, ◌<◌, ◌≤◌, Bool, true, false, List, [], ◌∷◌, ◌++◌, length, take, drop, Option, Some, None, refl, sym, ap, subst, ◌∙◌, arith, inl, inr}
use Rattle.std.specs.Prelude.{if◌then◌else◌, not, slice_index, slice_index_or, ◌==◌, ◌&&◌, nat_lt, nat_le, Contains, codes}
use Rattle.std.specs.List.{prefix_len, list_all}
use Rattle.std.specs.Str.{bytes_eq}
use Rattle.std.proofs.lemmas.List.{length-append}
use Rattle.std.proofs.Math.Seq.{take-append_seam, get_or-append_seam}
use Rattle.std.proofs.lemmas.Bool.{lt-ltb, lt-leb, le-leb}
use Rattle.std.proofs.lemmas.Bool.Decides.{Decides-eqb}
use denote.Enum.Bare.{same_true}
use Rattle.std.proofs.Common.{rules}
use Rattle.gp_memory.proofs.Basics.{both, not_less, not_true}
use Rattle.gp_tokens.specs.contracts.token.Kind.{the_type}
use Rattle.gp_tokens.specs.declared.fault.LexFault.TheVariants as fault
use Rattle.gp_tokens.specs.declared.front.Class.TheVariants as class
use Rattle.gp_tokens.specs.declared.front.First.{First}
use Rattle.gp_tokens.specs.declared.front.First.TheVariants as f
use Rattle.gp_tokens.specs.declared.token.Kind.{Kind}
use Rattle.gp_tokens.specs.declared.token.Kind.TheVariants as k
use Rattle.gp_tokens.specs.Bytes.{is_blank, is_digit, is_word_byte, is_line_byte, is_string_byte}
use Rattle.gp_tokens.specs.Front.{run, comment_end, signs, stands, sign, number_token, word, string, comment_of, signed, front}
use Rattle.gp_tokens.specs.Kinds.{same_kind}
use Rattle.gp_tokens.specs.Numbers.{number_of, checked_number}
use Rattle.gp_tokens.specs.Cut.{EndsComment, closes, goes_on, BeginsComment, HasNoLongerSign}
use Rattle.gp_tokens.proofs.Runs.{passes}
use Rattle.gp_tokens.proofs.Fronts.{two_are, found, longest, begun, stands_there, none_stands, goods}

-- ---- runs

module _ {X : Type 0} (p : X → Bool) where
  -- a run that another class ends is the longest
  run_length : (d : X) (xs ys : List X) → list_all p xs ≡ true → p (slice_index_or ys 0 d) ≡ false → prefix_len p (xs ++ ys) ≡ length xs
  run_length d [] [] a stops = refl
  run_length d [] (y ∷ ys) a stops = rw stops refl
  run_length d (x ∷ xs) ys a stops =
      let q = both (p x) (list_all p xs) a in
      let one : 1 + length xs ≡ suc (length xs) = omega arith in
      rw (q.0, run_length d xs ys q.1 stops) one

  whole_run : (xs : List X) → list_all p xs ≡ true → prefix_len p xs ≡ length xs
  whole_run [] a = refl
  whole_run (x ∷ xs) a =
      let q = both (p x) (list_all p xs) a in
      let one : 1 + length xs ≡ suc (length xs) = omega arith in
      rw (q.0, whole_run xs q.1) one

  part_run : (xs : List X) → list_all p xs ≡ false → prefix_len p xs < length xs
  part_run [] a = absurd cc
  part_run (x ∷ xs) a = go (p x) refl (part_run xs) a
    where
      go : (b : Bool) → p x ≡ b → (list_all p xs ≡ false → prefix_len p xs < length xs) → (b && list_all p xs) ≡ false → prefix_len p (x ∷ xs) < length (x ∷ xs)
      go true e below a = let m = below a in rw e (omega arith)
      go false e below a = rw e (omega arith)

-- ---- bytes

-- a byte of a class is none that is not of it
apart : (p : ℕ → Bool) (b n : ℕ) → p b ≡ true → p n ≡ false → (b == n) ≡ false
apart p b n has lacks = go (b == n) refl
  where
    go : (c : Bool) → (b == n) ≡ c → (b == n) ≡ false
    go true e = let same : b ≡ n = (Decides-eqb b n).0 e in let wrong : p n ≡ true = subst (λ (m : ℕ). p m ≡ true) same has in absurd cc
    go false e = e

no_blank : (p : ℕ → Bool) (b : ℕ) → p b ≡ true → p 32 ≡ false → p 9 ≡ false → p 13 ≡ false → p 10 ≡ false → is_blank b ≡ false
no_blank p b has space tab back feed = rw (apart p b 32 has space, apart p b 9 has tab, apart p b 13 has back, apart p b 10 has feed) refl

digit_word : (b : ℕ) → is_digit b ≡ true → is_word_byte b ≡ true
digit_word b h = rw h refl

digits_words : (text : List ℕ) → list_all is_digit text ≡ true → list_all is_word_byte text ≡ true
digits_words [] h = refl
digits_words (b ∷ text) h = let q = both (is_digit b) (list_all is_digit text) h in rw (digit_word b q.0, digits_words text q.1) refl

no_slash : (b : ℕ) (t : List ℕ) (n : ℕ) → (b == 47) ≡ false → (b == 47 && slice_index t 0 == n) ≡ false
no_slash b t n h = rw h refl

-- ---- the tests of `front`, in turn

if_true : (c : Bool) (x y : First) → c ≡ true → (if c then x else y) ≡ x
if_true c x y e = rw e refl

if_false : (c : Bool) (x y z : First) → c ≡ false → y ≡ z → (if c then x else y) ≡ z
if_false c x y z e q = rw e q

pub blank_front : (at b : ℕ) (t : List ℕ) → is_blank b ≡ true → front at (b ∷ t) ≡ f.Skip 1
unfolding front
blank_front at b t h = if_true (is_blank b) _ _ h

word_at : (at b : ℕ) (t : List ℕ) → is_word_byte b ≡ true → front at (b ∷ t) ≡ word at (b ∷ t)
unfolding front
word_at at b t h =
    if_false (is_blank b) _ _ _ (no_blank is_word_byte b h refl refl refl refl)
    (if_false (b == 47 && slice_index t 0 == 47) _ _ _ (no_slash b t 47 (apart is_word_byte b 47 h refl))
    (if_false (b == 47 && slice_index t 0 == 42) _ _ _ (no_slash b t 42 (apart is_word_byte b 47 h refl))
    (if_true (is_word_byte b) _ _ h)))

-- ---- words and numbers

word_word : (at : ℕ) (text behind : List ℕ) → list_all is_word_byte text ≡ true → list_all is_digit text ≡ false → is_word_byte (slice_index behind 0) ≡ false → word at (text ++ behind) ≡ f.Token k.Word (length text)
word_word at text behind words mixed stops =
    let size : run class.Word (text ++ behind) ≡ length text = run_length is_word_byte 0 text behind words stops in
    let first : take (length text) (text ++ behind) ≡ text = take-append_seam text behind in
    let more : nat_lt (run class.Digit text) (length text) ≡ true = lt-ltb (run class.Digit text) (length text) (part_run is_digit text mixed) in
    rw (size, first, more) refl

word_number : (at : ℕ) (text behind : List ℕ) → list_all is_digit text ≡ true → is_word_byte (slice_index behind 0) ≡ false → word at (text ++ behind) ≡ number_token at (length text) (checked_number text)
word_number at text behind digits stops =
    let size : run class.Word (text ++ behind) ≡ length text = run_length is_word_byte 0 text behind (digits_words text digits) stops in
    let first : take (length text) (text ++ behind) ≡ text = take-append_seam text behind in
    let all : run class.Digit text ≡ length text = whole_run is_digit text digits in
    rw (size, first, all, not_less (length text)) refl

pub word_front : (at : ℕ) (text behind : List ℕ) → 0 < length text → list_all is_word_byte text ≡ true → list_all is_digit text ≡ false → is_word_byte (slice_index behind 0) ≡ false → front at (text ++ behind) ≡ f.Token k.Word (length text)
word_front at [] behind some words mixed stops = absurd (omega arith)
word_front at (b ∷ text) behind some words mixed stops = word_at at b (text ++ behind) (both (is_word_byte b) (list_all is_word_byte text) words).0 ∙ word_word at (b ∷ text) behind words mixed stops

digits_front : (at : ℕ) (text behind : List ℕ) → 0 < length text → list_all is_digit text ≡ true → is_word_byte (slice_index behind 0) ≡ false → front at (text ++ behind) ≡ number_token at (length text) (checked_number text)
digits_front at [] behind some digits stops = absurd (omega arith)
digits_front at (b ∷ text) behind some digits stops = word_at at b (text ++ behind) (digit_word b (both (is_digit b) (list_all is_digit text) digits).0) ∙ word_number at (b ∷ text) behind digits stops

checked : (text : List ℕ) → number_of text ≤ 2 ^ 127 → checked_number text ≡ Some (number_of text)
checked text h = let e : nat_le (number_of text) (2 ^ 127) ≡ true = le-leb _ _ h in rw e refl

unchecked : (text : List ℕ) → 2 ^ 127 < number_of text → checked_number text ≡ None
unchecked text h = let e : nat_le (number_of text) (2 ^ 127) ≡ false = lt-leb _ _ h in rw e refl

pub number_front : (at : ℕ) (text behind : List ℕ) → 0 < length text → list_all is_digit text ≡ true → number_of text ≤ 2 ^ 127 → is_word_byte (slice_index behind 0) ≡ false → front at (text ++ behind) ≡ f.Token k.Number (length text)
number_front at text behind some digits fits stops = digits_front at text behind some digits stops ∙ ap (number_token at (length text)) (checked text fits)

pub long_front : (at : ℕ) (text behind : List ℕ) → list_all is_digit text ≡ true → 2 ^ 127 < number_of text → is_word_byte (slice_index behind 0) ≡ false → front at (text ++ behind) ≡ f.Fault (fault.NumberTooLong at)
long_front at [] behind digits long stops = absurd (omega arith)
long_front at (b ∷ text) behind digits long stops = digits_front at (b ∷ text) behind (omega arith) digits stops ∙ ap (number_token at (length (b ∷ text))) (unchecked (b ∷ text) long)

-- ---- strings

string_at : (at : ℕ) (t : List ℕ) → front at (34 ∷ t) ≡ string at (34 ∷ t)
unfolding front
string_at at t = refl

run_string : (inner : List ℕ) (b : ℕ) (text : List ℕ) → list_all is_string_byte inner ≡ true → is_string_byte b ≡ false → run class.String (inner ++ b ∷ text) ≡ length inner
run_string inner b text inside stops = run_length is_string_byte 0 inner (b ∷ text) inside stops

inside_of : (inner : List ℕ) (b : ℕ) (text : List ℕ) → (length inner == length (inner ++ b ∷ text)) ≡ false
inside_of inner b text = go (length inner == length (inner ++ b ∷ text)) refl
  where
    go : (c : Bool) → (length inner == length (inner ++ b ∷ text)) ≡ c → (length inner == length (inner ++ b ∷ text)) ≡ false
    go true e = let q = (Decides-eqb (length inner) (length (inner ++ b ∷ text))).0 e in absurd (omega (arith, length-append inner (b ∷ text)))
    go false e = e

pub string_front : (at : ℕ) (inner behind : List ℕ) → list_all is_string_byte inner ≡ true → front at (34 ∷ inner ++ 34 ∷ behind) ≡ f.Token k.String (length inner + 2)
string_front at inner behind inside =
    let next : slice_index (inner ++ 34 ∷ behind) (length inner) ≡ 34 = get_or-append_seam inner 34 behind 0 in
    string_at at (inner ++ 34 ∷ behind) ∙ rw (run_string inner 34 behind inside refl, inside_of inner 34 behind, next) refl

pub bad_string_front : (at : ℕ) (inner : List ℕ) (b : ℕ) (text : List ℕ) → list_all is_string_byte inner ≡ true → is_string_byte b ≡ false → (b ≡ 34 → ⊥) → front at (34 ∷ inner ++ b ∷ text) ≡ f.Fault (fault.BadByte (at + length inner + 1))
bad_string_front at inner b text inside stops no_quote =
    let next : slice_index (inner ++ b ∷ text) (length inner) ≡ b = get_or-append_seam inner b text 0 in
    let other : (b == 34) ≡ false = go (b == 34) refl in
    string_at at (inner ++ b ∷ text) ∙ rw (run_string inner b text inside stops, inside_of inner b text, next, other) refl
  where
    go : (c : Bool) → (b == 34) ≡ c → (b == 34) ≡ false
    go true e = absurd (no_quote ((Decides-eqb b 34).0 e))
    go false e = e

pub open_string_front : (at : ℕ) (inner : List ℕ) → list_all is_string_byte inner ≡ true → front at (34 ∷ inner) ≡ f.Fault (fault.OpenString at)
open_string_front at inner inside =
    let all : run class.String inner ≡ length inner = whole_run is_string_byte inner inside in
    let same : (length inner == length inner) ≡ true = (Decides-eqb (length inner) (length inner)).1 refl in
    string_at at inner ∙ rw (all, same) refl

-- ---- comments

line_at : (at : ℕ) (t : List ℕ) → front at (47 ∷ 47 ∷ t) ≡ f.Skip (run class.Line (47 ∷ 47 ∷ t))
unfolding front
line_at at t = refl

pub line_front : (at : ℕ) (line rest : List ℕ) → take 2 line ≡ codes "//" → list_all is_line_byte line ≡ true → is_line_byte (slice_index_or rest 0 10) ≡ false → front at (line ++ rest) ≡ f.Skip (length line)
line_front at [] rest begins one_line ends = absurd cc
line_front at (x ∷ []) rest begins one_line ends = absurd cc
line_front at (x ∷ y ∷ line) rest begins one_line ends =
    let first : x ≡ 47 = cc in
    let second : y ≡ 47 = cc in
    let size : run class.Line (x ∷ y ∷ line ++ rest) ≡ length (x ∷ y ∷ line) = run_length is_line_byte 10 (x ∷ y ∷ line) rest one_line ends in
    subst (λ (b : ℕ). front at (b ∷ y ∷ line ++ rest) ≡ f.Skip (length (b ∷ y ∷ line))) (sym first)
    (subst (λ (b : ℕ). front at (47 ∷ b ∷ line ++ rest) ≡ f.Skip (length (47 ∷ b ∷ line))) (sym second)
    (line_at at (line ++ rest) ∙ ap (λ (n : ℕ). f.Skip n) (rw (first, second) at size)))

comment_at : (at : ℕ) (t : List ℕ) → front at (47 ∷ 42 ∷ t) ≡ comment_of at (comment_end t)
unfolding front
comment_at at t = refl

-- a test of two bytes that holds is what the text begins with
begins_so : (x y b : ℕ) (t : List ℕ) → (y == 0) ≡ false → (b == x && slice_index t 0 == y) ≡ true → take 2 (b ∷ t) ≡ x ∷ y ∷ []
begins_so x y b [] some e = let two : 0 ≡ y = (two_are x y b [] e).1 in let zero : (y == 0) ≡ true = (Decides-eqb y 0).1 (sym two) in absurd cc
begins_so x y b (c ∷ t) some e = let a = two_are x y b (c ∷ t) e in let one : b ≡ x = a.0 in let two : c ≡ y = a.1 in rw (one, two) refl

fails_unless : (x y b : ℕ) (t : List ℕ) → (y == 0) ≡ false → (take 2 (b ∷ t) ≡ x ∷ y ∷ [] → ⊥) → (b == x && slice_index t 0 == y) ≡ false
fails_unless x y b t some apart = go (b == x && slice_index t 0 == y) refl
  where
    go : (c : Bool) → (b == x && slice_index t 0 == y) ≡ c → (b == x && slice_index t 0 == y) ≡ false
    go true e = absurd (apart (begins_so x y b t some e))
    go false e = e

-- the bytes that a comment's end ends, end there
pub ended : {text rest : List ℕ} → EndsComment text rest → (n : ℕ) × (comment_end text ≡ Some n) × (n ≤ length text) × (rest ≡ drop n text)
ended (closes {rest}) = (2, refl, omega arith, refl)
ended (goes_on {b} {text} {rest} apart more) =
    let a = ended more in
    (suc a.0, rw (fails_unless 42 47 b text refl apart, a.1) refl, omega (arith, a.2), a.3)

-- and where there is no end, none is found
pub none_ends : (text : List ℕ) → ((front_bytes behind : List ℕ) → text ≡ front_bytes ++ 42 ∷ 47 ∷ behind → ⊥) → comment_end text ≡ None
none_ends [] h = refl
none_ends (b ∷ text) h =
    rw (fails_unless 42 47 b text refl (no_front b text h), none_ends text (λ front_bytes behind e. h (b ∷ front_bytes) behind (ap (λ (t : List ℕ). b ∷ t) e))) refl
  where
    no_front : (b : ℕ) (text : List ℕ) → ((front_bytes behind : List ℕ) → b ∷ text ≡ front_bytes ++ 42 ∷ 47 ∷ behind → ⊥) → take 2 (b ∷ text) ≡ codes "*/" → ⊥
    no_front b [] h e = absurd cc
    no_front b (c ∷ text) h e = h [] text cc

pub comment_front : (at : ℕ) (t : List ℕ) (n : ℕ) → comment_end t ≡ Some n → front at (47 ∷ 42 ∷ t) ≡ f.Skip (n + 2)
comment_front at t n e = comment_at at t ∙ ap (comment_of at) e

pub open_comment_front : (at : ℕ) (t : List ℕ) → comment_end t ≡ None → front at (47 ∷ 42 ∷ t) ≡ f.Fault (fault.OpenComment at)
open_comment_front at t e = comment_at at t ∙ ap (comment_of at) e

-- ---- signs

-- the kind of the sign that is spelled so
abbrev kind_in : List (Kind × List ℕ) → List ℕ → Option Kind
kind_in [] text = None
kind_in (s ∷ others) text = if bytes_eq s.1 text then Some s.0 else kind_in others text

abbrev is_kind : Option Kind → Kind → Bool
is_kind None kind = false
is_kind (Some found) kind = same_kind found kind

same_kinds : (a b : Kind) → same_kind a b ≡ true → a ≡ b
unfolding same_kind
same_kinds a b h = same_true the_type (search rules) a b h

kinds_are_theirs : (s : Kind × List ℕ) → Contains signs s → is_kind (kind_in signs s.1) s.0 ≡ true
unfolding same_kind
kinds_are_theirs = passes (λ (s : Kind × List ℕ). is_kind (kind_in signs s.1) s.0) signs refl

-- one sign has one kind
one_kind : (a b : Kind) (text : List ℕ) → Contains signs (a, text) → Contains signs (b, text) → a ≡ b
one_kind a b text c d = go (kind_in signs text) (kinds_are_theirs (a, text) c) (kinds_are_theirs (b, text) d)
  where
    go : (o : Option Kind) → is_kind o a ≡ true → is_kind o b ≡ true → a ≡ b
    go None e g = absurd cc
    go (Some found) e g = sym (same_kinds found a e) ∙ same_kinds found b g

-- what a sign begins with begins nothing else
abbrev begins_sign : ℕ → Bool
begins_sign b = not (is_blank b) && not (is_word_byte b) && not (b == 34)

firsts : (s : Kind × List ℕ) → Contains signs s → begins_sign (slice_index s.1 0) ≡ true
firsts = passes (λ (s : Kind × List ℕ). begins_sign (slice_index s.1 0)) signs refl

signed_at : (at b : ℕ) (t : List ℕ) → is_blank b ≡ false → is_word_byte b ≡ false → (b == 34) ≡ false → (BeginsComment (b ∷ t) → ⊥) → front at (b ∷ t) ≡ signed at (sign b (slice_index t 0))
unfolding front
signed_at at b t blank word_byte quote clear =
    if_false (is_blank b) _ _ _ blank
    (if_false (b == 47 && slice_index t 0 == 47) _ _ _ (fails_unless 47 47 b t refl (λ e. clear (inl e)))
    (if_false (b == 47 && slice_index t 0 == 42) _ _ _ (fails_unless 47 42 b t refl (λ e. clear (inr e)))
    (if_false (is_word_byte b) _ _ _ word_byte
    (if_false (b == 34) _ _ _ quote refl))))

-- the longest sign that the text begins with is the one that is found
sign_of : (b : ℕ) (t : List ℕ) (kind : Kind) (text : List ℕ) → Contains signs (kind, text) → take (length text) (b ∷ t) ≡ text → HasNoLongerSign (length text) (b ∷ t) → sign b (slice_index t 0) ≡ Some (kind, length text)
sign_of b t kind text c begins most = go (sign b (slice_index t 0)) refl
  where
    here : stands b (slice_index t 0) text ≡ true
    here = stands_there b t text (goods (kind, text) c) begins

    go : (o : Option (Kind × ℕ)) → sign b (slice_index t 0) ≡ o → sign b (slice_index t 0) ≡ Some (kind, length text)
    go None e = absurd (none_stands b (slice_index t 0) signs (kind, text) e c here)
    go (Some r) e =
        let a = found b (slice_index t 0) signs r e in
        let g = begun b t a.0 (goods (r.0, a.0) a.1) a.2 in
        let short : length a.0 ≤ length text = most (r.0, a.0) a.1 g.0 in
        let long : length text ≤ r.1 = longest b (slice_index t 0) signs r (kind, text) refl e c here in
        let size : length a.0 ≡ r.1 = a.3 in
        let same_size : length a.0 ≡ length text = omega arith in
        let same : a.0 ≡ text = sym g.0 ∙ ap (λ n. take n (b ∷ t)) same_size ∙ begins in
        let kinds : r.0 ≡ kind = one_kind r.0 kind text (subst (λ (w : List ℕ). Contains signs (r.0, w)) same a.1) c in
        let number : r.1 ≡ length text = omega arith in
        rw (← kinds, ← number) e

pub sign_front : (at : ℕ) (kind : Kind) (text behind : List ℕ) → Contains signs (kind, text) → HasNoLongerSign (length text) (text ++ behind) → (BeginsComment (text ++ behind) → ⊥) → front at (text ++ behind) ≡ f.Token kind (length text)
sign_front at kind [] behind c most clear = let g = goods (kind, []) c in absurd cc
sign_front at kind (b ∷ text) behind c most clear =
    let one = both (not (is_blank b) && not (is_word_byte b)) (not (b == 34)) (firsts (kind, b ∷ text) c) in
    let two = both (not (is_blank b)) (not (is_word_byte b)) one.0 in
    signed_at at b (text ++ behind) (not_true _ two.0) (not_true _ two.1) (not_true _ one.1) clear
    ∙ ap (signed at) (sign_of b (text ++ behind) kind (b ∷ text) c (take-append_seam (b ∷ text) behind) most)

slash : Contains signs (k.Slash, codes "/")
slash = (21, omega arith, refl)

pub bad_front : (at b : ℕ) (text : List ℕ) → is_blank b ≡ false → is_word_byte b ≡ false → (b ≡ 34 → ⊥) → ((s : Kind × List ℕ) → Contains signs s → take (length s.1) (b ∷ text) ≡ s.1 → ⊥) → front at (b ∷ text) ≡ f.Fault (fault.BadByte at)
bad_front at b text blank word_byte quote none =
    signed_at at b text blank word_byte (no_quote (b == 34) refl) clear ∙ ap (signed at) (go (sign b (slice_index text 0)) refl)
  where
    first_of_two : (b : ℕ) (text : List ℕ) (y : ℕ) → take 2 (b ∷ text) ≡ 47 ∷ y ∷ [] → take 1 (b ∷ text) ≡ codes "/"
    first_of_two b [] y e = absurd cc
    first_of_two b (c ∷ text) y e = let one : b ≡ 47 = cc in rw one refl

    no_quote : (c : Bool) → (b == 34) ≡ c → (b == 34) ≡ false
    no_quote true e = absurd (quote ((Decides-eqb b 34).0 e))
    no_quote false e = e

    clear : BeginsComment (b ∷ text) → ⊥
    clear (inl e) = none (k.Slash, codes "/") slash (first_of_two b text 47 e)
    clear (inr e) = none (k.Slash, codes "/") slash (first_of_two b text 42 e)

    go : (o : Option (Kind × ℕ)) → sign b (slice_index text 0) ≡ o → sign b (slice_index text 0) ≡ None
    go None e = e
    go (Some r) e =
        let a = found b (slice_index text 0) signs r e in
        let g = begun b text a.0 (goods (r.0, a.0) a.1) a.2 in
        absurd (none (r.0, a.0) a.1 g.0)

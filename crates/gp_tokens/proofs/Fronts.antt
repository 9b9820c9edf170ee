-- What stands at the front is what it is said to be.
use Rattle.std.proofs.Common.{◌≡◌, ℕ, zero, suc, ◌+◌, ◌^◌, ◌<◌, ◌≤◌, Bool, true, false, List, [], ◌∷◌, ◌++◌, length, take, drop, Option, Some, None, refl, sym, ap, subst, ◌∙◌, arith, inl, inr}
use Rattle.std.specs.Prelude.{if◌then◌else◌, not, slice_index, slice_index_or, ◌==◌, ◌&&◌, nat_lt, nat_le, Contains, option_map}
use Rattle.std.specs.List.{prefix_len, list_all}
use Rattle.std.proofs.lemmas.List.{take-append-drop, length-take-le}
use Rattle.std.proofs.Math.Seq.{take-suc, take-length, drop-cons}
use Rattle.std.proofs.lemmas.List.Sums.{prefix_len-le-length, prefix_len_stops}
use Rattle.std.proofs.lemmas.Bool.{leb-true, leb-false, ltb-true, ltb-false}
use Rattle.std.proofs.lemmas.Bool.Decides.{Decides-eqb}
use Rattle.gp_memory.proofs.Basics.{both}
use Rattle.gp_tokens.specs.declared.fault.LexFault.TheVariants as fault
use Rattle.gp_tokens.specs.declared.front.Class.TheVariants as class
use Rattle.gp_tokens.specs.declared.front.First.{First}
use Rattle.gp_tokens.specs.declared.front.First.TheVariants as f
use Rattle.gp_tokens.specs.declared.token.Kind.{Kind}
use Rattle.gp_tokens.specs.declared.token.Kind.TheVariants as k
use Rattle.gp_tokens.specs.Bytes.{is_blank, is_digit, is_word_byte, is_line_byte, is_string_byte}
use Rattle.gp_tokens.specs.Front.{run, comment_end, signs, stands, first_fit, sign, number_token, word, string, comment_of, comment, signed, front}
use Rattle.gp_tokens.specs.Numbers.{number_of, checked_number}
use Rattle.gp_tokens.specs.Cut.{IsLineComment, EndsComment, closes, goes_on, IsGap, nothing, blank, line_comment, BeginsComment, HasNoLongerSign, IsSpelled, number, IsStuck}
use Rattle.gp_tokens.specs.Cut as cut
use Rattle.gp_tokens.proofs.Runs.{run_passes, run_stops, short_run, passes}

-- what stands at the front of this text is within it, and is what it is said to be
abbrev pub Fits : ℕ → List ℕ → First → Type 0
Fits at z (f.Skip len) = (0 < len) × (len ≤ length z) × ((rest : List ℕ) → IsGap (drop len z) rest → IsGap z rest)
Fits at z (f.Token kind len) = (0 < len) × (len ≤ length z) × IsSpelled kind (take len z) (drop len z)
Fits at z (f.Fault e) = IsStuck at z e

fits_if : (at : ℕ) (z : List ℕ) (b : Bool) (x y : First) → (b ≡ true → Fits at z x) → (b ≡ false → Fits at z y) → Fits at z (if b then x else y)
fits_if at z true x y p q = p refl
fits_if at z false x y p q = q refl

-- ---- comments

line_fits : (at : ℕ) (t : List ℕ) → Fits at (47 ∷ 47 ∷ t) (f.Skip (run class.Line (47 ∷ 47 ∷ t)))
line_fits at t =
    let m = prefix_len is_line_byte t in
    let two : 1 + (1 + m) ≡ suc (suc m) = omega arith in
    let small = prefix_len-le-length is_line_byte t in (
      omega arith,
      omega arith,
      λ rest g. line_comment (record {
        comment = take (1 + (1 + m)) (47 ∷ 47 ∷ t);
        spelled = sym (take-append-drop (1 + (1 + m)) (47 ∷ 47 ∷ t));
        begins = rw two refl;
        one_line = run_passes is_line_byte (47 ∷ 47 ∷ t);
        ends = run_stops is_line_byte 10 refl (47 ∷ 47 ∷ t);
      }) g,
    )

pub two_are : (x y b : ℕ) (t : List ℕ) → (b == x && slice_index t 0 == y) ≡ true → (b ≡ x) × (slice_index t 0 ≡ y)
two_are x y b t e = let a = both _ _ e in ((Decides-eqb b x).0 a.0, (Decides-eqb (slice_index t 0) y).0 a.1)

pub two_are_not : (x y b : ℕ) (t : List ℕ) → (b == x && slice_index t 0 == y) ≡ false → take 2 (b ∷ t) ≡ x ∷ y ∷ [] → ⊥
two_are_not x y b [] e h = cc
two_are_not x y b (c ∷ t) e h =
    let one : b ≡ x = cc in
    let two : c ≡ y = cc in
    let a : (b == x) ≡ true = (Decides-eqb b x).1 one in
    let b' : (c == y) ≡ true = (Decides-eqb c y).1 two in
    let false_is : false ≡ true = sym e ∙ rw (a, b') refl in
    cc

closed : (b : ℕ) (t : List ℕ) → b ≡ 42 → slice_index t 0 ≡ 47 → (2 ≤ length (b ∷ t)) × EndsComment (b ∷ t) (drop 2 (b ∷ t))
closed b [] one two = absurd (omega arith)
closed b (c ∷ t) one two = let two' : c ≡ 47 = two in (omega arith, rw (one, two') closes)

pub end_is : (t : List ℕ) (n : ℕ) → comment_end t ≡ Some n → (n ≤ length t) × EndsComment t (drop n t)
end_is [] n h = absurd cc
end_is (b ∷ t) n h = go (λ m e. end_is t m e) (b == 42 && slice_index t 0 == 47) refl h
  where
    later : ((m : ℕ) → comment_end t ≡ Some m → (m ≤ length t) × EndsComment t (drop m t)) → (b == 42 && slice_index t 0 == 47) ≡ false → (o : Option ℕ) → comment_end t ≡ o → option_map suc o ≡ Some n → (n ≤ length (b ∷ t)) × EndsComment (b ∷ t) (drop n (b ∷ t))
    later below apart None e h = absurd cc
    later below apart (Some m) e h =
        let q : n ≡ suc m = cc in
        let small = (below m e).0 in
        rw q (omega arith, goes_on (two_are_not 42 47 b t apart) (below m e).1)

    go : ((m : ℕ) → comment_end t ≡ Some m → (m ≤ length t) × EndsComment t (drop m t)) → (c : Bool) → (b == 42 && slice_index t 0 == 47) ≡ c → (if c then Some 2 else option_map suc (comment_end t)) ≡ Some n → (n ≤ length (b ∷ t)) × EndsComment (b ∷ t) (drop n (b ∷ t))
    go below true e h =
        let q : n ≡ 2 = cc in
        let a = two_are 42 47 b t e in
        rw q (closed b t a.0 a.1)
    go below false e h = later below e (comment_end t) refl h

no_end : (t : List ℕ) → comment_end t ≡ None → (front_bytes behind : List ℕ) → t ≡ front_bytes ++ 42 ∷ 47 ∷ behind → ⊥
no_end [] h [] behind e = cc
no_end [] h (x ∷ front_bytes) behind e = cc
no_end (b ∷ t) h front_bytes behind e = go (λ h front_bytes behind e. no_end t h front_bytes behind e) (b == 42 && slice_index t 0 == 47) refl h front_bytes e
  where
    none_later : (o : Option ℕ) → option_map suc o ≡ None → o ≡ None
    none_later None e = refl
    none_later (Some n) e = absurd cc

    go : (comment_end t ≡ None → (front_bytes behind : List ℕ) → t ≡ front_bytes ++ 42 ∷ 47 ∷ behind → ⊥) → (c : Bool) → (b == 42 && slice_index t 0 == 47) ≡ c → (if c then Some 2 else option_map suc (comment_end t)) ≡ None → (front_bytes : List ℕ) → (b ∷ t) ≡ front_bytes ++ 42 ∷ 47 ∷ behind → ⊥
    go below true q h front_bytes e = cc
    go below false q h [] e = two_are_not 42 47 b t q (ap (take 2) e)
    go below false q h (x ∷ front_bytes) e = below (none_later (comment_end t) h) front_bytes behind cc

comment_fits : (at : ℕ) (t : List ℕ) → Fits at (47 ∷ 42 ∷ t) (comment at (47 ∷ 42 ∷ t))
comment_fits at t = go (comment_end t) refl
  where
    go : (o : Option ℕ) → comment_end t ≡ o → Fits at (47 ∷ 42 ∷ t) (comment_of at o)
    go None e = cut.open_comment (no_end t e)
    go (Some n) e =
        let a = end_is t n e in
        let two : n + 2 ≡ suc (suc n) = omega arith in
        let small = a.0 in
        (omega arith, omega arith, λ rest g. cut.comment a.1 (rw two at g))

line_at : (at b : ℕ) (t : List ℕ) → (b == 47 && slice_index t 0 == 47) ≡ true → Fits at (b ∷ t) (f.Skip (run class.Line (b ∷ t)))
line_at at b [] e = let a = two_are 47 47 b [] e in absurd (omega arith)
line_at at b (c ∷ t) e = let a = two_are 47 47 b (c ∷ t) e in let one : b ≡ 47 = a.0 in let two : c ≡ 47 = a.1 in rw (one, two) (line_fits at t)

comment_at : (at b : ℕ) (t : List ℕ) → (b == 47 && slice_index t 0 == 42) ≡ true → Fits at (b ∷ t) (comment at (b ∷ t))
comment_at at b [] e = let a = two_are 47 42 b [] e in absurd (omega arith)
comment_at at b (c ∷ t) e = let a = two_are 47 42 b (c ∷ t) e in let one : b ≡ 47 = a.0 in let two : c ≡ 42 = a.1 in rw (one, two) (comment_fits at t)

-- ---- words and numbers

checked : (w : List ℕ) (v : ℕ) → checked_number w ≡ Some v → number_of w ≤ 2 ^ 127
checked w v h = go (nat_le (number_of w) (2 ^ 127)) refl h
  where
    go : (b : Bool) → nat_le (number_of w) (2 ^ 127) ≡ b → (if b then Some (number_of w) else None) ≡ Some v → number_of w ≤ 2 ^ 127
    go true e h = leb-true _ _ e
    go false e h = absurd cc

too_long : (w : List ℕ) → checked_number w ≡ None → 2 ^ 127 < number_of w
too_long w h = go (nat_le (number_of w) (2 ^ 127)) refl h
  where
    go : (b : Bool) → nat_le (number_of w) (2 ^ 127) ≡ b → (if b then Some (number_of w) else None) ≡ None → 2 ^ 127 < number_of w
    go true e h = absurd cc
    go false e h = leb-false (number_of w) (2 ^ 127) e

word_fits : (at b : ℕ) (t : List ℕ) → is_word_byte b ≡ true → Fits at (b ∷ t) (word at (b ∷ t))
word_fits at b t h =
    let z = b ∷ t in
    let len = run class.Word z in
    let w = take len z in
    let some : 0 < len = rw h (omega arith) in
    let within : len ≤ length z = prefix_len-le-length is_word_byte z in
    let size : length w ≡ len = length-take-le len z within in
    let words : list_all is_word_byte w ≡ true = run_passes is_word_byte z in
    let stops : is_word_byte (slice_index (drop len z) 0) ≡ false = run_stops is_word_byte 0 refl z in
    fits_if at z (nat_lt (run class.Digit w) len) (f.Token k.Word len) (number_token at len (checked_number w))
    (λ e. (some, within, cut.word words (short_run is_digit w (subst (λ n. prefix_len is_digit w < n) (sym size) (ltb-true (run class.Digit w) len e))) stops))
    (λ e.
    let all : run class.Digit w ≡ length w = omega (arith, size, ltb-false (run class.Digit w) len e, prefix_len-le-length is_digit w) in
    let digits : list_all is_digit w ≡ true = rw (all, take-length w) at (run_passes is_digit w) in
    go z len (checked_number w) refl some within digits stops)
  where
    go : (z : List ℕ) (len : ℕ) (o : Option ℕ) → checked_number (take len z) ≡ o → 0 < len → len ≤ length z → list_all is_digit (take len z) ≡ true → is_word_byte (slice_index (drop len z) 0) ≡ false → Fits at z (number_token at len o)
    go z len None e some within digits stops = subst (λ w. IsStuck at w (fault.NumberTooLong at)) (take-append-drop len z) (cut.number_too_long (take len z) (drop len z) digits (too_long (take len z) e) stops)
    go z len (Some v) e some within digits stops = (some, within, number digits (checked (take len z) v e) stops)

-- ---- strings

string_fits : (at : ℕ) (t : List ℕ) → Fits at (34 ∷ t) (string at (34 ∷ t))
string_fits at t =
    let len = run class.String t in
    let within : len ≤ length t = prefix_len-le-length is_string_byte t in
    let inner : list_all is_string_byte (take len t) ≡ true = run_passes is_string_byte t in
    fits_if at (34 ∷ t) (len == length t) (f.Fault (fault.OpenString at)) (if slice_index t len == 34 then f.Token k.String (len + 2) else f.Fault (fault.BadByte (at + len + 1)))
    (λ e.
    let all : len ≡ length t = (Decides-eqb len (length t)).0 e in
    cut.open_string (rw (all, take-length t) at inner))
    (λ inside.
    let apart : len ≡ length t → ⊥ = λ q. let yes = (Decides-eqb len (length t)).1 q in cc in
    let more : len < length t = omega arith in
    fits_if at (34 ∷ t) (slice_index t len == 34) (f.Token k.String (len + 2)) (f.Fault (fault.BadByte (at + len + 1)))
    (λ e.
    let two : len + 2 ≡ suc (suc len) = omega arith in
    let quote : slice_index t len ≡ 34 = (Decides-eqb _ _).0 e in
    let text : take (len + 2) (34 ∷ t) ≡ 34 ∷ take len t ++ 34 ∷ [] = rw two (ap (λ w. 34 ∷ w) (take-suc t len 0 more ∙ ap (λ c. take len t ++ c ∷ []) quote)) in
    (omega arith, omega arith, subst (λ w. IsSpelled k.String w (drop (len + 2) (34 ∷ t))) (sym text) (cut.string (take len t) inner)))
    (λ e. bad_inside at t len more inner (prefix_len_stops is_string_byte t 0 more) e))
  where
    bad_inside : (at : ℕ) (t : List ℕ) (len : ℕ) → len < length t → list_all is_string_byte (take len t) ≡ true → is_string_byte (slice_index t len) ≡ false → (slice_index t len == 34) ≡ false → IsStuck at (34 ∷ t) (fault.BadByte (at + len + 1))
    bad_inside at t len more inner stops e =
        let size : length (take len t) ≡ len = length-take-le len t (omega arith) in
        let whole : 34 ∷ take len t ++ slice_index t len ∷ drop (suc len) t ≡ 34 ∷ t = ap (λ w. 34 ∷ w) (ap (λ w. take len t ++ w) (sym (drop-cons t len 0 more)) ∙ take-append-drop len t) in
        let no_quote : slice_index t len ≡ 34 → ⊥ = λ q. let yes = (Decides-eqb (slice_index t len) 34).1 q in cc in
        let main : IsStuck at (34 ∷ take len t ++ slice_index t len ∷ drop (suc len) t) (fault.BadByte (at + length (take len t) + 1)) = cut.bad_byte_in_string (take len t) (slice_index t len) (drop (suc len) t) inner stops no_quote in
        subst (λ w. IsStuck at w (fault.BadByte (at + len + 1))) whole (subst (λ n. IsStuck at (34 ∷ take len t ++ slice_index t len ∷ drop (suc len) t) (fault.BadByte (at + n + 1))) size main)

-- ---- signs

-- one byte, or two of which the second is not 0
abbrev good : List ℕ → Bool
good [] = false
good (x ∷ []) = true
good (x ∷ y ∷ []) = not (y == 0)
good (x ∷ y ∷ z ∷ more) = false

-- none is longer than one before it
abbrev descends : List (Kind × List ℕ) → Bool
descends [] = true
descends (s ∷ others) = list_all (λ o. nat_le (length o.1) (length s.1)) others && descends others

pub found : (b next : ℕ) (table : List (Kind × List ℕ)) (r : Kind × ℕ) → first_fit b next table ≡ Some r → (text : List ℕ) × (Contains table (r.0, text)) × (stands b next text ≡ true) × (length text ≡ r.1)
found b next [] r h = absurd cc
found b next (s ∷ others) r h = go (λ h. found b next others r h) (stands b next s.1) refl h
  where
    go : (first_fit b next others ≡ Some r → (text : List ℕ) × (Contains others (r.0, text)) × (stands b next text ≡ true) × (length text ≡ r.1)) → (c : Bool) → stands b next s.1 ≡ c → (if c then Some (s.0, length s.1) else first_fit b next others) ≡ Some r
        → (text : List ℕ) × (Contains (s ∷ others) (r.0, text)) × (stands b next text ≡ true) × (length text ≡ r.1)
    go below true e h =
        let same : (s.0, length s.1) ≡ r = cc in
        subst (λ (r : Kind × ℕ). (text : List ℕ) × (Contains (s ∷ others) (r.0, text)) × (stands b next text ≡ true) × (length text ≡ r.1)) same (s.1, (0, omega arith, refl), e, refl)
    go below false e h =
        let a = below h in
        let c = a.1 in
        (a.0, (suc c.0, omega (arith, c.1), c.2), a.2, a.3)

pub longest : (b next : ℕ) (table : List (Kind × List ℕ)) (r : Kind × ℕ) (s : Kind × List ℕ) → descends table ≡ true → first_fit b next table ≡ Some r → Contains table s → stands b next s.1 ≡ true → length s.1 ≤ r.1
longest b next [] r s d h c e = absurd cc
longest b next (o ∷ others) r s d h (i, lt, at) e = go (λ d h c. longest b next others r s d h c e) (stands b next o.1) refl h i lt at
  where
    go : (descends others ≡ true → first_fit b next others ≡ Some r → Contains others s → length s.1 ≤ r.1) → (c : Bool) → stands b next o.1 ≡ c → (if c then Some (o.0, length o.1) else first_fit b next others) ≡ Some r
        → (i : ℕ) → i < length (o ∷ others) → slice_index_or (o ∷ others) i s ≡ s → length s.1 ≤ r.1
    go below true q h zero lt at =
        let same : (o.0, length o.1) ≡ r = cc in
        let this : o ≡ s = at in
        let a : length o.1 ≡ r.1 = ap (λ (r : Kind × ℕ). r.1) same in
        let b' : length o.1 ≡ length s.1 = ap (λ (o : Kind × List ℕ). length o.1) this in
        omega arith
    go below true q h (suc i) lt at =
        let same : (o.0, length o.1) ≡ r = cc in
        let a : length o.1 ≡ r.1 = ap (λ (r : Kind × ℕ). r.1) same in
        let m = leb-true (length s.1) (length o.1) (passes (λ (x : Kind × List ℕ). nat_le (length x.1) (length o.1)) others (both _ _ d).0 s (i, omega arith, at)) in
        omega arith
    go below false q h zero lt at =
        let this : o ≡ s = at in
        let no' : stands b next s.1 ≡ false = subst (λ (o : Kind × List ℕ). stands b next o.1 ≡ false) this q in
        absurd cc
    go below false q h (suc i) lt at = below (both _ _ d).1 h (i, omega arith, at)

-- a sign that stands there is what the text begins with
pub begun : (b : ℕ) (t text : List ℕ) → good text ≡ true → stands b (slice_index t 0) text ≡ true → (take (length text) (b ∷ t) ≡ text) × (0 < length text) × (length text ≤ length (b ∷ t))
begun b t [] g e = absurd cc
begun b t (x ∷ []) g e = let one : b ≡ x = (Decides-eqb b x).0 (both _ _ e).0 in (rw one refl, omega arith, omega arith)
begun b [] (x ∷ y ∷ []) g e =
    let two : 0 ≡ y = (Decides-eqb 0 y).0 (both (b == x) (0 == y) e).1 in
    let bad : not (y == 0) ≡ false = subst (λ (v : ℕ). not (v == 0) ≡ false) two refl in
    absurd cc
begun b (c ∷ t) (x ∷ y ∷ []) g e =
    let one : b ≡ x = (Decides-eqb b x).0 (both _ _ e).0 in
    let two : c ≡ y = (Decides-eqb c y).0 (both (b == x) (c == y) e).1 in
    (rw (one, two) refl, omega arith, omega arith)
begun b t (x ∷ y ∷ z ∷ more) g e = absurd cc

-- and a sign that the text begins with stands there
pub stands_there : (b : ℕ) (t text : List ℕ) → good text ≡ true → take (length text) (b ∷ t) ≡ text → stands b (slice_index t 0) text ≡ true
stands_there b t [] g e = absurd cc
stands_there b t (x ∷ []) g e = let one : b ≡ x = cc in let q : (b == x) ≡ true = (Decides-eqb b x).1 one in rw q refl
stands_there b [] (x ∷ y ∷ []) g e = absurd cc
stands_there b (c ∷ t) (x ∷ y ∷ []) g e =
    let one : b ≡ x = cc in
    let two : c ≡ y = cc in
    let p : (b == x) ≡ true = (Decides-eqb b x).1 one in
    let q : (c == y) ≡ true = (Decides-eqb c y).1 two in
    rw (p, q) refl
stands_there b t (x ∷ y ∷ z ∷ more) g e = absurd cc

-- where none stands, the text begins with none
pub none_stands : (b next : ℕ) (table : List (Kind × List ℕ)) (s : Kind × List ℕ) → first_fit b next table ≡ None → Contains table s → stands b next s.1 ≡ true → ⊥
none_stands b next [] s h (i, lt, at) e = absurd (omega arith)
none_stands b next (o ∷ others) s h (i, lt, at) e = go (λ h c. none_stands b next others s h c e) (stands b next o.1) refl h i lt at
  where
    go : (first_fit b next others ≡ None → Contains others s → ⊥) → (c : Bool) → stands b next o.1 ≡ c → (if c then Some (o.0, length o.1) else first_fit b next others) ≡ None → (i : ℕ) → i < length (o ∷ others) → slice_index_or (o ∷ others) i s ≡ s → ⊥
    go below true q h i lt at = cc
    go below false q h zero lt at =
        let this : o ≡ s = at in
        let not_here : stands b next s.1 ≡ false = subst (λ (o : Kind × List ℕ). stands b next o.1 ≡ false) this q in
        cc
    go below false q h (suc i) lt at = below h (i, omega arith, at)

pub goods : (s : Kind × List ℕ) → Contains signs s → good s.1 ≡ true
goods = passes (λ (s : Kind × List ℕ). good s.1) signs refl

sign_fits : (at b : ℕ) (t : List ℕ) → is_blank b ≡ false → is_word_byte b ≡ false → (b == 34) ≡ false → (BeginsComment (b ∷ t) → ⊥) → Fits at (b ∷ t) (signed at (sign b (slice_index t 0)))
sign_fits at b t no_blank no_word no_quote clear = go (sign b (slice_index t 0)) refl
  where
    go : (o : Option (Kind × ℕ)) → sign b (slice_index t 0) ≡ o → Fits at (b ∷ t) (signed at o)
    go None e = cut.bad_byte no_blank no_word (λ q. let yes = (Decides-eqb b 34).1 q in cc) (λ s c begins. none_stands b (slice_index t 0) signs s e c (stands_there b t s.1 (goods s c) begins))
    go (Some r) e =
        let z = b ∷ t in
        let a = found b (slice_index t 0) signs r e in
        let text = a.0 in
        let f = begun b t text (goods (r.0, text) a.1) a.2 in
        let whole : text ++ drop (length text) z ≡ z = ap (λ w. w ++ drop (length text) z) (sym f.0) ∙ take-append-drop (length text) z in
        let most : HasNoLongerSign (length text) (text ++ drop (length text) z) = λ s c begins.
        let n = longest b (slice_index t 0) signs r s refl e c (stands_there b t s.1 (goods s c) (subst (λ w. take (length s.1) w ≡ s.1) whole begins)) in
        let size = a.3 in
        omega arith in
        let main : IsSpelled r.0 text (drop (length text) z) = cut.sign a.1 most (λ h. clear (subst BeginsComment whole h)) in
        let sized : IsSpelled r.0 (take (length text) z) (drop (length text) z) = subst (λ w. IsSpelled r.0 w (drop (length text) z)) (sym f.0) main in
        subst (λ n. (0 < n) × (n ≤ length z) × (IsSpelled r.0 (take n z) (drop n z))) a.3 (f.1, f.2, sized)

-- ---- all of them

no_comment : (b : ℕ) (t : List ℕ) → (b == 47 && slice_index t 0 == 47) ≡ false → (b == 47 && slice_index t 0 == 42) ≡ false → BeginsComment (b ∷ t) → ⊥
no_comment b t one two (inl h) = two_are_not 47 47 b t one h
no_comment b t one two (inr h) = two_are_not 47 42 b t two h

string_at : (at b : ℕ) (t : List ℕ) → (b == 34) ≡ true → Fits at (b ∷ t) (string at (b ∷ t))
string_at at b t e = let one : b ≡ 34 = (Decides-eqb b 34).0 e in rw one (string_fits at t)

pub front_fits : (at : ℕ) (z : List ℕ) → 0 < length z → Fits at z (front at z)
unfolding front
front_fits at [] some = absurd (omega arith)
front_fits at (b ∷ t) some =
    let z = b ∷ t in
    fits_if at z (is_blank b) _ _ (λ e. (omega arith, omega arith, λ rest g. blank e g)) (λ no_blank.
    fits_if at z (b == 47 && slice_index t 0 == 47) _ _ (λ e. line_at at b t e) (λ one.
    fits_if at z (b == 47 && slice_index t 0 == 42) _ _ (λ e. comment_at at b t e) (λ two.
    fits_if at z (is_word_byte b) _ _ (λ e. word_fits at b t e) (λ no_word.
    fits_if at z (b == 34) _ _ (λ e. string_at at b t e) (λ no_quote. sign_fits at b t no_blank no_word no_quote (no_comment b t one two))))))

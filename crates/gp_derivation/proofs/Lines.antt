-- The lines of texts.
use Rattle.std.proofs.Common.{◌≡◌, ℕ, ◌+◌, ◌-◌, ◌<◌, ◌≤◌, Bool, true, false, List, [], ◌∷◌, length, take, drop, refl, sym, ap, subst, ◌∙◌, arith}
use Rattle.std.specs.Prelude.{◌==◌, All, Some, None, position, cond}
use Rattle.std.specs.List.{slice_split, position_or_len}
use Rattle.std.proofs.lemmas.Bool.{ltb-true, ltb-false}
use Rattle.std.proofs.lemmas.Option.{none-some, cond_some}
use Rattle.std.proofs.lemmas.List.{take_rest}
use Rattle.std.proofs.lemmas.List.Splits.{slice_split_none, slice_split_first, length-slice_split}
use Rattle.std.proofs.lemmas.List.Sums.{fails_before_first}
use Rattle.std.proofs.Math.Dec.{ltb}
use Rattle.gp_derivation.specs.Script.{without_empty_end, lines_of}

abbrev pub is_feed : ℕ → Bool
is_feed b = b == 10

before_end : (w : List ℕ) (ws : List (List ℕ)) → 0 < length ws → without_empty_end (w ∷ ws) ≡ w ∷ without_empty_end ws
before_end w [] b = absurd (omega arith)
before_end [] (v ∷ ws) b = refl
before_end (x ∷ w) (v ∷ ws) b = refl

at_end : (w : List ℕ) → 0 < length w → without_empty_end (w ∷ []) ≡ w ∷ []
at_end [] b = absurd (omega arith)
at_end (x ∷ w) b = refl

-- the first line, and those behind its line feed
first_line : (text : List ℕ) (end : ℕ) → position is_feed text ≡ Some end → lines_of text ≡ take end text ∷ lines_of (drop (end + 1) text)
first_line text end e =
    let h = cond_some (ltb (position_or_len is_feed text) (length text)) (position_or_len is_feed text) end e in
    let some : 0 < length (slice_split is_feed (drop (end + 1) text)) = let n = length-slice_split is_feed (drop (end + 1) text) in omega arith in
    let cut = slice_split_first is_feed text 0 (ltb-true (position_or_len is_feed text) (length text) h.0) in
    ap without_empty_end (subst (λ n. slice_split is_feed text ≡ take n text ∷ slice_split is_feed (drop (n + 1) text)) h.1 cut)
    ∙ before_end (take end text) (slice_split is_feed (drop (end + 1) text)) some

-- the same, of what a slice holds
pub cut_line : (text : List ℕ) (end : ℕ) → position is_feed text ≡ Some end → lines_of text ≡ take end text ∷ lines_of (take (length text - (end + 1)) (drop (end + 1) text))
cut_line text end e = first_line text end e ∙ ap (λ l. take end text ∷ lines_of l) (sym (take_rest text (end + 1)))

past : (text : List ℕ) → position is_feed text ≡ None → length text ≤ position_or_len is_feed text
past text e = by (ltb (position_or_len is_feed text) (length text)) refl
  where
    by : (b : Bool) → ltb (position_or_len is_feed text) (length text) ≡ b → length text ≤ position_or_len is_feed text
    by true h = absurd (none-some (position_or_len is_feed text) (sym e ∙ ap (λ c. cond c (Some (position_or_len is_feed text)) None) h))
    by false h = ltb-false (position_or_len is_feed text) (length text) h

-- a last line without its line feed
pub last_line : (text : List ℕ) → 0 < length text → position is_feed text ≡ None → lines_of text ≡ text ∷ []
last_line text b e =
    let far = past text e in
    let none : All (λ c. is_feed c ≡ false) text = λ k d in_text. fails_before_first is_feed text k d (omega arith) in
    ap without_empty_end (slice_split_none is_feed text none) ∙ at_end text b

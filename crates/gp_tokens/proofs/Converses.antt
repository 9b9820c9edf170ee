-- What the definitions say a text is cut into, and which fault they say is its first, is what is read.
use Rattle.std.proofs.Common.{◌≡◌, ℕ, suc, ◌+◌, ◌-◌, ◌<◌, ◌≤◌, List, [], ◌∷◌, ◌++◌, length, take, drop, Ok, Err, refl, sym, ap, ◌∙◌, append_assoc, arith, length-drop}
use Rattle.std.specs.Prelude.{◌⊎◌, codes}
use Rattle.std.proofs.Common.{inl, inr}
use Rattle.std.proofs.lemmas.List.{drop-drop, length-append, take-append-drop}
use Rattle.std.proofs.Math.Seq.{take-append_seam, drop-append_seam}
use Rattle.gp_tokens.specs.declared.fault.LexFault.{LexFault}
use Rattle.gp_tokens.specs.declared.front.First.TheVariants as f
use Rattle.gp_tokens.specs.declared.token.Kind.{Kind}
use Rattle.gp_tokens.specs.declared.token.Kind.TheVariants as k
use Rattle.gp_tokens.specs.declared.token.Token.{Token}
use Rattle.gp_tokens.specs.Front.{front}
use Rattle.gp_tokens.specs.Lexed.{Outcome, with_front, lexed, tokens_of}
use Rattle.gp_tokens.specs.Cut.{IsLineComment, IsGap, nothing, blank, line_comment, comment, IsSpelled, number, word, string, sign, end_of, IsTokenOf, IsCutFrom, ends, next, IsCutOf, IsStuck, IsFaultFrom, here, later, IsFaultOf}
use Rattle.gp_tokens.specs.Cut as cut
use Rattle.gp_tokens.specs.Laws.{TextsHaveOneCut, TextsHaveOneFault, FaultsExcludeCuts, TextsHaveCutOrFault, TokensAreTheCut, RefusalsAreTheFault}
use Rattle.gp_tokens.proofs.Cuts.{cut_of, fault_of}
use Rattle.gp_tokens.proofs.Spelled.{blank_front, word_front, number_front, long_front, string_front, bad_string_front, open_string_front, line_front, ended, none_ends, comment_front, open_comment_front, sign_front, bad_front}
use Rattle.gp_tokens.proofs.Steps.{skip_on, token_on, fault_on}

-- ---- gaps

-- reading goes on behind the gap, at the offset where it ends
record SkipsTo (text rest : List ℕ) : Type 0 where
  count : ℕ
  within : count ≤ length text
  is_rest : rest ≡ drop count text
  same : (at : ℕ) → lexed 0 at text ≡ lexed 0 (at + count) rest

skip_then : (len : ℕ) (text mid rest : List ℕ) → 0 < len → len ≤ length text → mid ≡ drop len text → ((at : ℕ) → front at text ≡ f.Skip len) → SkipsTo mid rest → SkipsTo text rest
skip_then len text mid rest some within mid_is skips s =
    let left : length mid ≡ length text - len = ap length mid_is ∙ length-drop len text in
    record {
      count = len + s.count;
      within = let w = s.within in omega arith;
      is_rest = s.is_rest ∙ ap (drop s.count) mid_is ∙ drop-drop s.count len text;
      same = λ at.
          let some_text : 0 < length text = omega arith in
          let assoc : (at + len) + s.count ≡ at + (len + s.count) = omega arith in
          skip_on at len text some_text some (sym (skips at)) ∙ ap (lexed 0 (at + len)) (sym mid_is) ∙ s.same (at + len) ∙ ap (λ (n : ℕ). lexed 0 n rest) assoc;
    }

skip_line : (text mid rest : List ℕ) → IsLineComment text mid → SkipsTo mid rest → SkipsTo text rest
skip_line text mid rest c s =
    let line = c.comment in
    let size : length text ≡ length line + length mid = ap length c.spelled ∙ length-append line mid in
    let some : 0 < length line = long_enough line c.begins in
    skip_then (length line) text mid rest some (omega arith) (sym (ap (drop (length line)) c.spelled ∙ drop-append_seam line mid))
    (λ at. ap (front at) c.spelled ∙ line_front at line mid c.begins c.one_line c.ends) s
  where
    long_enough : (line : List ℕ) → take 2 line ≡ codes "//" → 0 < length line
    long_enough [] e = absurd cc
    long_enough (b ∷ line) e = omega arith

gap_on : {text rest : List ℕ} → IsGap text rest → SkipsTo text rest
gap_on (nothing {rest}) = record { count = 0; within = omega arith; is_rest = refl; same = λ at. ap (λ (n : ℕ). lexed 0 n rest) (plus_none at) }
  where
    plus_none : (at : ℕ) → at ≡ at + 0
    plus_none at = omega arith
gap_on (blank {b} {text} {rest} h g) = skip_then 1 (b ∷ text) text rest (omega arith) (omega arith) refl (λ at. blank_front at b text h) (gap_on g)
gap_on (line_comment {text} {mid} {rest} c g) = skip_line text mid rest c (gap_on g)
gap_on (comment {text} {mid} {rest} c g) =
    let a = ended c in
    let two : a.0 + 2 ≡ suc (suc a.0) = omega arith in
    skip_then (a.0 + 2) (47 ∷ 42 ∷ text) mid rest (omega arith) (omega (arith, a.2)) (rw two a.3) (λ at. comment_front at text a.0 a.1) (gap_on g)

-- ---- tokens

spelled_front : (at : ℕ) (kind : Kind) (text behind : List ℕ) → 0 < length text → IsSpelled kind text behind → front at (text ++ behind) ≡ f.Token kind (length text)
spelled_front at _ text behind some (number digits fits stops) = number_front at text behind some digits fits stops
spelled_front at _ text behind some (word words mixed stops) = word_front at text behind some words mixed stops
spelled_front at _ _ behind some (string inner inside) =
    let size : length inner + 2 ≡ length (34 ∷ inner ++ 34 ∷ []) = omega (arith, length-append inner (34 ∷ [])) in
    ap (λ (w : List ℕ). front at (34 ∷ w)) (append_assoc inner (34 ∷ []) behind) ∙ string_front at inner behind inside ∙ ap (λ (n : ℕ). f.Token k.String n) size
spelled_front at kind text behind some (sign c most clear) = sign_front at kind text behind c most clear

stuck_front : {at : ℕ} {text : List ℕ} {e : LexFault} → IsStuck at text e → front at text ≡ f.Fault e
stuck_front (cut.bad_byte {at} {b} {text} no_blank word_byte quote none) = bad_front at b text no_blank word_byte quote none
stuck_front (cut.bad_byte_in_string {at} inner b text inside stops quote) = bad_string_front at inner b text inside stops quote
stuck_front (cut.open_string {at} {inner} inside) = open_string_front at inner inside
stuck_front (cut.open_comment {at} {text} none) = open_comment_front at text (none_ends text none)
stuck_front (cut.number_too_long {at} text behind digits long stops) = long_front at text behind digits long stops

stuck_some : {at : ℕ} {text : List ℕ} {e : LexFault} → IsStuck at text e → 0 < length text
stuck_some (cut.bad_byte {at} {b} {text} no_blank word_byte quote none) = omega arith
stuck_some (cut.bad_byte_in_string {at} inner b text inside stops quote) = omega arith
stuck_some (cut.open_string {at} {inner} inside) = omega arith
stuck_some (cut.open_comment {at} {text} none) = omega arith
stuck_some (cut.number_too_long {at} [] behind digits long stops) = absurd (omega arith)
stuck_some (cut.number_too_long {at} (b ∷ text) behind digits long stops) = omega arith

-- ---- a token of the source, and what is read from it on

module _ (source : List ℕ) (t : Token) (is : IsTokenOf source t) where
  -- the token's text, and what is behind it
  split : drop t.start source ≡ t.text ++ drop (end_of t) source
  split =
      let size : end_of t - t.start ≡ length t.text = omega arith in
      let first : t.text ≡ take (length t.text) (drop t.start source) = is.slice ∙ ap (λ (n : ℕ). take n (drop t.start source)) size in
      sym (take-append-drop (length t.text) (drop t.start source)) ∙ ap (λ (w : List ℕ). w ++ drop (length t.text) (drop t.start source)) (sym first) ∙ ap (λ (w : List ℕ). t.text ++ w) (drop-drop (length t.text) t.start source)

  token_next : lexed 0 t.start (drop t.start source) ≡ with_front (t ∷ []) (lexed 0 (end_of t) (drop (end_of t) source))
  token_next =
      let z = t.text ++ drop (end_of t) source in
      let some : 0 < length z = let s = is.some in omega (arith, length-append t.text (drop (end_of t) source)) in
      let front_is : front t.start z ≡ f.Token t.kind (length t.text) = spelled_front t.start t.kind t.text (drop (end_of t) source) is.some is.spelled in
      ap (lexed 0 t.start) split ∙ token_on t.start (length t.text) t.kind z some is.some (sym front_is)
      ∙ rw (take-append_seam t.text (drop (end_of t) source), drop-append_seam t.text (drop (end_of t) source)) refl

  -- what a gap before the token leads to is the token's place
  gap_to : (at : ℕ) → at ≤ t.start → IsGap (drop at source) (drop t.start source) → lexed 0 at (drop at source) ≡ lexed 0 t.start (drop t.start source)
  gap_to at le g =
      let s = gap_on g in
      let sizes : length (drop t.start source) ≡ length (drop at source) - s.count = ap length s.is_rest ∙ length-drop s.count (drop at source) in
      let place : at + s.count ≡ t.start = let some = is.some in let within = is.within in let small = s.within in omega (arith, length-drop t.start source, length-drop at source) in
      s.same at ∙ ap (λ (n : ℕ). lexed 0 n (drop t.start source)) place

cut_read : (source : List ℕ) (at : ℕ) (ts : List Token) → IsCutFrom source at ts → lexed 0 at (drop at source) ≡ Ok ts
cut_read source at _ (ends g) = (gap_on g).same at
cut_read source at _ (next {t = t} {ts = ts} le g is others) =
    gap_to source t is at le g ∙ token_next source t is ∙ ap (with_front (t ∷ [])) (cut_read source (end_of t) ts others)

fault_read : (source : List ℕ) (at : ℕ) (e : LexFault) → IsFaultFrom source at e → lexed 0 at (drop at source) ≡ Err e
fault_read source at e (here {stop = stop} le g stuck) =
    let s = gap_on g in
    let some = stuck_some stuck in
    let sizes : length (drop stop source) ≡ length (drop at source) - s.count = ap length s.is_rest ∙ length-drop s.count (drop at source) in
    let place : at + s.count ≡ stop = let small = s.within in omega (arith, length-drop stop source, length-drop at source) in
    s.same at ∙ ap (λ (n : ℕ). lexed 0 n (drop stop source)) place ∙ fault_on stop e (drop stop source) some (sym (stuck_front stuck))
fault_read source at e (later {t = t} le g is others) =
    gap_to source t is at le g ∙ token_next source t is ∙ ap (with_front (t ∷ [])) (fault_read source (end_of t) e others)

-- ---- the laws

tokens_found : (text : List ℕ) (tokens : List Token) → IsCutOf text tokens → tokens_of text ≡ Ok tokens
tokens_found text tokens c = cut_read text 0 tokens c

fault_found : (text : List ℕ) (e : LexFault) → IsFaultOf text e → tokens_of text ≡ Err e
fault_found text e h = fault_read text 0 e h

pub tokens_are_the_cut : TokensAreTheCut
tokens_are_the_cut = record { are_cut = cut_of; are_found = tokens_found }

pub refusals_are_the_fault : RefusalsAreTheFault
refusals_are_the_fault = record { is_fault = fault_of; is_found = fault_found }

pub one_cut : TextsHaveOneCut
one_cut text one other c d = let a = tokens_found text one c in let b = tokens_found text other d in cc

pub one_fault : TextsHaveOneFault
one_fault text one other c d = let a = fault_found text one c in let b = fault_found text other d in cc

pub not_both : FaultsExcludeCuts
not_both text tokens e h c = let a = tokens_found text tokens c in let b = fault_found text e h in absurd cc

pub cut_or_fault : TextsHaveCutOrFault
cut_or_fault text = go (tokens_of text) refl
  where
    go : (o : Outcome) → tokens_of text ≡ o → ((tokens : List Token) × IsCutOf text tokens) ⊎ ((e : LexFault) × IsFaultOf text e)
    go (Ok tokens) e = inl (tokens, cut_of text tokens e)
    go (Err fault) e = inr (fault, fault_of text fault e)

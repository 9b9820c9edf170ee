-- The tokens that are read are the tokens of the text.
use Rattle.std.proofs.Common.{◌≡◌, ℕ, zero, suc, ◌+◌, ◌-◌, ◌^◌, ◌<◌, ◌≤◌, Bool, true, false, not, List, [], ◌∷◌, length, take, drop, Ok, Err, refl, sym, subst, ◌∙◌, arith, length-drop, ap}
use Rattle.std.specs.Prelude.{All, nat_lt, Contains, slice_index_or}
use Rattle.std.proofs.lemmas.List.{drop-drop, length-take-le, drop_all}
use Rattle.std.proofs.lemmas.Bool.{ltb-true, ltb-false}
use Rattle.gp_tokens.specs.declared.fault.LexFault.{LexFault}
use Rattle.gp_tokens.specs.declared.front.First.{First}
use Rattle.gp_tokens.specs.declared.front.First.TheVariants as f
use Rattle.gp_tokens.specs.declared.token.Kind.{Kind}
use Rattle.gp_tokens.specs.declared.token.Kind.TheVariants as k
use Rattle.gp_tokens.specs.declared.token.Token.{Token}
use Rattle.gp_tokens.specs.Front.{front, signs}
use Rattle.gp_tokens.specs.Kinds.{same_kind}
use Rattle.gp_tokens.specs.Lexed.{Outcome, with_front, lexed, tokens_of}
use Rattle.gp_tokens.specs.Numbers.{number_of}
use Rattle.gp_tokens.specs.Cut.{IsGap, nothing, IsSpelled, number, word, string, sign, end_of, IsTokenOf, IsCutFrom, ends, next, IsCutOf, IsInRange, IsStuck, IsFaultFrom, here, later, IsFaultOf}
use Rattle.gp_tokens.proofs.Fronts.{Fits, front_fits}
use Rattle.gp_tokens.proofs.Runs.{passes}
use Rattle.gp_tokens.proofs.Steps.{token, skip_on, token_on, fault_on}

widen : (source : List ℕ) (at next_at : ℕ) (ts : List Token) → at ≤ next_at → ((rest : List ℕ) → IsGap (drop next_at source) rest → IsGap (drop at source) rest) → IsCutFrom source next_at ts → IsCutFrom source at ts
widen source at next_at _ le gap (ends g) = ends (gap [] g)
widen source at next_at _ le gap (next {t = t} more g token others) = next (omega arith) (gap (drop t.start source) g) token others

token_is : (source : List ℕ) (at len : ℕ) (kind : Kind) → 0 < len → len ≤ length (drop at source) → IsSpelled kind (take len (drop at source)) (drop len (drop at source)) → IsTokenOf source (token kind at (take len (drop at source)))
token_is source at len kind some within spelled =
    let z = drop at source in
    let size : length (take len z) ≡ len = length-take-le len z within in
    let back : (at + len) - at ≡ len = omega arith in
    let left = length-drop at source in
    record {
      some = rw size some;
      within = omega arith;
      slice = rw (size, back) refl;
      spelled = rw (size, ← drop-drop) spelled;
    }

at_end : (source : List ℕ) (at : ℕ) (ts : List Token) → length source ≤ at → lexed 0 at (drop at source) ≡ Ok ts → IsCutFrom source at ts
at_end source at ts le h =
    let none : drop at source ≡ [] = drop_all at source le in
    let empty : [] ≡ ts = let q : Ok [] ≡ Ok ts = rw none at h in cc in
    subst (λ ts. IsCutFrom source at ts) empty (ends (rw none nothing))

module _ (source : List ℕ) (at : ℕ) (onward : (next_at : ℕ) (ts : List Token) → at < next_at → lexed 0 next_at (drop next_at source) ≡ Ok ts → IsCutFrom source next_at ts) where
  behind : (len : ℕ) (kind : Kind) (ts : List Token) → 0 < len → len ≤ length (drop at source) → IsSpelled kind (take len (drop at source)) (drop len (drop at source)) → (o : Outcome) → lexed 0 (at + len) (drop (at + len) source) ≡ o
      → with_front (token kind at (take len (drop at source)) ∷ []) o ≡ Ok ts → IsCutFrom source at ts
  behind len kind ts some within spelled (Err e) q h = absurd cc
  behind len kind ts some within spelled (Ok more) q h =
      let t = token kind at (take len (drop at source)) in
      let same : t ∷ more ≡ ts = cc in
      let size : length (take len (drop at source)) ≡ len = length-take-le len (drop at source) within in
      let others : IsCutFrom source (at + len) more = onward (at + len) more (omega arith) q in
      subst (λ ts. IsCutFrom source at ts) same (next (omega arith) nothing (token_is source at len kind some within spelled) (rw size others))

  front_cut : (ts : List Token) → at < length source → lexed 0 at (drop at source) ≡ Ok ts → (o : First) → front at (drop at source) ≡ o → Fits at (drop at source) o → IsCutFrom source at ts
  front_cut ts lt h (f.Skip len) q fits =
      let some : 0 < length (drop at source) = omega (arith, length-drop at source) in
      let e : lexed 0 (at + len) (drop (at + len) source) ≡ Ok ts = rw drop-drop at (sym (skip_on at len (drop at source) some fits.0 (sym q)) ∙ h) in
      let gap : (rest : List ℕ) → IsGap (drop (at + len) source) rest → IsGap (drop at source) rest = rw drop-drop at fits.2 in
      widen source at (at + len) ts (omega arith) gap (onward (at + len) ts (omega (arith, fits.0)) e)
  front_cut ts lt h (f.Token kind len) q fits =
      let some : 0 < length (drop at source) = omega (arith, length-drop at source) in
      let e = rw drop-drop at (sym (token_on at len kind (drop at source) some fits.0 (sym q)) ∙ h) in
      behind len kind ts fits.0 fits.1 fits.2 (lexed 0 (at + len) (drop (at + len) source)) refl e
  front_cut ts lt h (f.Fault e) q fits =
      let some : 0 < length (drop at source) = omega (arith, length-drop at source) in
      let wrong : Err e ≡ Ok ts = sym (fault_on at e (drop at source) some (sym q)) ∙ h in
      absurd cc

cut_from : (n : ℕ) (source : List ℕ) (at : ℕ) (ts : List Token) → length source ≤ at + n → lexed 0 at (drop at source) ≡ Ok ts → IsCutFrom source at ts
cut_from zero source at ts le h = at_end source at ts (omega arith) h
cut_from (suc n) source at ts le h = go (nat_lt at (length source)) refl (λ next_at ts lt h. cut_from n source next_at ts (omega arith) h)
  where
    go : (b : Bool) → nat_lt at (length source) ≡ b → ((next_at : ℕ) (ts : List Token) → at < next_at → lexed 0 next_at (drop next_at source) ≡ Ok ts → IsCutFrom source next_at ts) → IsCutFrom source at ts
    go true e onward =
        let lt = ltb-true at (length source) e in
        let some : 0 < length (drop at source) = omega (arith, length-drop at source) in
        front_cut source at onward ts lt h (front at (drop at source)) refl (front_fits at (drop at source) some)
    go false e onward = at_end source at ts (ltb-false at (length source) e) h

-- the tokens that a text has are cut from it
pub cut_of : (source : List ℕ) (ts : List Token) → tokens_of source ≡ Ok ts → IsCutOf source ts
cut_of source ts h = cut_from (length source) source 0 ts (omega arith) h

-- ---- their numbers

no_number : (kind : Kind) (text : List ℕ) → Contains signs (kind, text) → kind ≡ k.Number → ⊥
unfolding same_kind
no_number kind text c e =
    let a : not (same_kind kind k.Number) ≡ true = passes (λ (s : Kind × List ℕ). not (same_kind s.0 k.Number)) signs refl (kind, text) c in
    let b : false ≡ true = rw e at a in
    cc

spelled_range : (kind : Kind) (text after : List ℕ) → IsSpelled kind text after → kind ≡ k.Number → number_of text ≤ 2 ^ 127
spelled_range _ text after (number a fits c) e = fits
spelled_range _ text after (word a b c) e = absurd cc
spelled_range _ _ after (string inner a) e = absurd cc
spelled_range kind text after (sign c a b) e = absurd (no_number kind text c e)

numbers_from : (source : List ℕ) (at : ℕ) (ts : List Token) → IsCutFrom source at ts → All IsInRange ts
numbers_from source at _ (ends g) i d lt = absurd (omega arith)
numbers_from source at _ (next {t = t} {ts = ts} le g token others) i d lt = go (λ i d lt. numbers_from source (end_of t) ts others i d lt) i lt
  where
    go : All IsInRange ts → (i : ℕ) → i < length (t ∷ ts) → IsInRange (slice_index_or (t ∷ ts) i d)
    go below zero lt = spelled_range t.kind t.text (drop (end_of t) source) token.spelled
    go below (suc i) lt = below i d (omega arith)

pub numbers_of : (source : List ℕ) (ts : List Token) → tokens_of source ≡ Ok ts → All IsInRange ts
numbers_of source ts h = numbers_from source 0 ts (cut_of source ts h)

-- ---- faults

widen_fault : (source : List ℕ) (at next_at : ℕ) (e : LexFault) → at ≤ next_at → ((rest : List ℕ) → IsGap (drop next_at source) rest → IsGap (drop at source) rest) → IsFaultFrom source next_at e → IsFaultFrom source at e
widen_fault source at next_at e le gap (here {stop = stop} more g stuck) = here (omega arith) (gap (drop stop source) g) stuck
widen_fault source at next_at e le gap (later {t = t} more g token others) = later (omega arith) (gap (drop t.start source) g) token others

module _ (source : List ℕ) (at : ℕ) (others : (next_at : ℕ) (e : LexFault) → at < next_at → lexed 0 next_at (drop next_at source) ≡ Err e → IsFaultFrom source next_at e) where
  fault_behind : (len : ℕ) (kind : Kind) (e : LexFault) → 0 < len → len ≤ length (drop at source) → IsSpelled kind (take len (drop at source)) (drop len (drop at source)) → (o : Outcome) → lexed 0 (at + len) (drop (at + len) source) ≡ o
      → with_front (token kind at (take len (drop at source)) ∷ []) o ≡ Err e → IsFaultFrom source at e
  fault_behind len kind e some within spelled (Ok more) q h = absurd cc
  fault_behind len kind e some within spelled (Err met) q h =
      let same : met ≡ e = cc in
      let size : length (take len (drop at source)) ≡ len = length-take-le len (drop at source) within in
      let more : IsFaultFrom source (at + len) e = others (at + len) e (omega arith) (q ∙ ap (λ (e : LexFault). Err e) same) in
      later (omega arith) nothing (token_is source at len kind some within spelled) (rw size more)

  front_fault : (e : LexFault) → at < length source → lexed 0 at (drop at source) ≡ Err e → (o : First) → front at (drop at source) ≡ o → Fits at (drop at source) o → IsFaultFrom source at e
  front_fault e lt h (f.Skip len) q fits =
      let some : 0 < length (drop at source) = omega (arith, length-drop at source) in
      let on : lexed 0 (at + len) (drop (at + len) source) ≡ Err e = rw drop-drop at (sym (skip_on at len (drop at source) some fits.0 (sym q)) ∙ h) in
      let gap : (rest : List ℕ) → IsGap (drop (at + len) source) rest → IsGap (drop at source) rest = rw drop-drop at fits.2 in
      widen_fault source at (at + len) e (omega arith) gap (others (at + len) e (omega (arith, fits.0)) on)
  front_fault e lt h (f.Token kind len) q fits =
      let some : 0 < length (drop at source) = omega (arith, length-drop at source) in
      let on = rw drop-drop at (sym (token_on at len kind (drop at source) some fits.0 (sym q)) ∙ h) in
      fault_behind len kind e fits.0 fits.1 fits.2 (lexed 0 (at + len) (drop (at + len) source)) refl on
  front_fault e lt h (f.Fault met) q fits =
      let some : 0 < length (drop at source) = omega (arith, length-drop at source) in
      let both : Err met ≡ Err e = sym (fault_on at met (drop at source) some (sym q)) ∙ h in
      let same : met ≡ e = cc in
      here (omega arith) nothing (subst (λ e. IsStuck at (drop at source) e) same fits)

no_fault_at_end : (source : List ℕ) (at : ℕ) (e : LexFault) → length source ≤ at → lexed 0 at (drop at source) ≡ Err e → IsFaultFrom source at e
no_fault_at_end source at e le h =
    let none : drop at source ≡ [] = drop_all at source le in
    let wrong : Ok [] ≡ Err e = rw none at h in
    absurd cc

fault_from : (n : ℕ) (source : List ℕ) (at : ℕ) (e : LexFault) → length source ≤ at + n → lexed 0 at (drop at source) ≡ Err e → IsFaultFrom source at e
fault_from zero source at e le h = no_fault_at_end source at e (omega arith) h
fault_from (suc n) source at e le h = go (nat_lt at (length source)) refl (λ next_at e lt h. fault_from n source next_at e (omega arith) h)
  where
    go : (b : Bool) → nat_lt at (length source) ≡ b → ((next_at : ℕ) (e : LexFault) → at < next_at → lexed 0 next_at (drop next_at source) ≡ Err e → IsFaultFrom source next_at e) → IsFaultFrom source at e
    go true q others =
        let lt = ltb-true at (length source) q in
        let some : 0 < length (drop at source) = omega (arith, length-drop at source) in
        front_fault source at others e lt h (front at (drop at source)) refl (front_fits at (drop at source) some)
    go false q others = no_fault_at_end source at e (ltb-false at (length source) q) h

-- the fault that a text has is its first
pub fault_of : (source : List ℕ) (e : LexFault) → tokens_of source ≡ Err e → IsFaultOf source e
fault_of source e h = fault_from (length source) source 0 e (omega arith) h

-- What the loop finds is the first token that is too deep.
use Rattle.std.proofs.Common.{◌≡◌, ℕ, zero, suc, ◌+◌, ◌<◌, ◌≤◌, Bool, true, false, List, [], ◌∷◌, length, Option, Some, None, Ok, Err, refl, sym, subst, arith, take, add-one}
use Rattle.std.specs.Prelude.{if◌then◌else◌, nat_lt, option_map, fold, sum, Result}
use Rattle.std.proofs.lemmas.Bool.{ltb-true, ltb-false}
use Rattle.gp_memory.specs.declared.refusal.NoMemory.{NoMemory}
use Rattle.gp_tokens.specs.declared.token.Token.{Token}
use Rattle.gp_program.specs.Depth.{Nesting, behind, outside, FindsDepth}
use Rattle.gp_program.specs.inside.Deep.{too_deep_from, GivesPlace}

-- the depth at the last of these tokens, behind tokens of this nesting
abbrev depth_behind : Nesting → List Token → ℕ
depth_behind n ts = sum (fold behind n ts).still + (fold behind n ts).run.len

record FirstDeep (n : Nesting) (ts : List Token) (k : ℕ) : Type 0 where
  place : k < length ts
  deep : 64 < depth_behind n (take (suc k) ts)
  first : (j : ℕ) → j < k → depth_behind n (take (suc j) ts) ≤ 64

within : (n m : ℕ) → nat_lt n m ≡ false → m ≤ n
within n m e = ltb-false n m e

mapped : (o : Option ℕ) (k : ℕ) → option_map suc o ≡ Some k → (j : ℕ) × (o ≡ Some j) × (suc j ≡ k)
mapped None k h = absurd cc
mapped (Some j) k h = (j, refl, cc)

found : (n : Nesting) (ts : List Token) (k : ℕ) → too_deep_from n ts ≡ Some k → FirstDeep n ts k
found n [] k h = absurd cc
found n (t ∷ ts) k h = by (nat_lt 64 (sum (behind n t).still + (behind n t).run.len)) refl h (λ j e. found (behind n t) ts j e)
  where
    by : (b : Bool) → nat_lt 64 (sum (behind n t).still + (behind n t).run.len) ≡ b → (if b then Some 0 else option_map suc (too_deep_from (behind n t) ts)) ≡ Some k
        → ((j : ℕ) → too_deep_from (behind n t) ts ≡ Some j → FirstDeep (behind n t) ts j) → FirstDeep n (t ∷ ts) k
    by true e h below =
        let here : 0 ≡ k = cc in
        subst (FirstDeep n (t ∷ ts)) here (record { place = omega arith; deep = ltb-true 64 _ e; first = λ j lt. absurd (omega arith) })
    by false e h below =
        let m = mapped (too_deep_from (behind n t) ts) k h in
        let f = below m.0 m.1 in
        subst (FirstDeep n (t ∷ ts)) m.2 (record { place = omega (arith, f.place); deep = f.deep; first = λ j lt. earlier f j lt })
      where
        earlier : {i : ℕ} → FirstDeep (behind n t) ts i → (j : ℕ) → j < suc i → depth_behind n (take (suc j) (t ∷ ts)) ≤ 64
        earlier f zero lt = within 64 _ e
        earlier f (suc j) lt = f.first j (omega arith)

none_found : (n : Nesting) (ts : List Token) → too_deep_from n ts ≡ None → (j : ℕ) → j < length ts → depth_behind n (take (suc j) ts) ≤ 64
none_found n [] h j lt = absurd (omega arith)
none_found n (t ∷ ts) h j lt = by (nat_lt 64 (sum (behind n t).still + (behind n t).run.len)) refl h (λ e i l. none_found (behind n t) ts e i l) j lt
  where
    unmapped : (o : Option ℕ) → option_map suc o ≡ None → o ≡ None
    unmapped None h = refl
    unmapped (Some j) h = absurd cc

    by : (b : Bool) → nat_lt 64 (sum (behind n t).still + (behind n t).run.len) ≡ b → (if b then Some 0 else option_map suc (too_deep_from (behind n t) ts)) ≡ None
        → (too_deep_from (behind n t) ts ≡ None → (j : ℕ) → j < length ts → depth_behind (behind n t) (take (suc j) ts) ≤ 64) → (j : ℕ) → j < suc (length ts) → depth_behind n (take (suc j) (t ∷ ts)) ≤ 64
    by true e h below j lt = absurd cc
    by false e h below zero lt = within 64 _ e
    by false e h below (suc j) lt = below (unmapped (too_deep_from (behind n t) ts) h) j (omega arith)

pub finds : (ts : List Token) (r : Result (Option ℕ) NoMemory) → GivesPlace r (too_deep_from outside ts) → FindsDepth ts r
finds ts (Err e) h = h
finds ts (Ok None) h = record { shallow = λ j lt. rw add-one (none_found outside ts (sym h) j lt) }
finds ts (Ok (Some k)) h =
    let f = found outside ts k (sym h) in
    record { place = f.place; deep = rw add-one f.deep; first = λ j lt. rw add-one (f.first j lt) }

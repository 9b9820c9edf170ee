-- Beginnings of one list.
use Rattle.std.proofs.Common.{◌≡◌, ℕ, zero, suc, ◌≤◌, ◌<◌, List, [], ◌∷◌, ◌++◌, length, refl, sym, ◌∙◌, ap, arith, subst, append_assoc}
use Rattle.std.proofs.lemmas.List.{append-nil, length-append}
use mathlib.Core.Option.{some, some-ne-none}
use lib.ListN.{get_elem?}
use Rattle.atomic_table.proofs.Lists.{at_longer}
use Rattle.opt_gate.specs.Lists.{StartsWith, AllAt}

module _ {A : Type 0} where
  pub starts_self : (a b : List A) → a ≡ b → StartsWith a b
  starts_self a b e = ([], e ∙ sym (append-nil b))

  pub starts_trans : (a b c : List A) → StartsWith a b → StartsWith b c → StartsWith a c
  starts_trans a b c p q = (q.0 ++ p.0, p.1 ∙ (ap (λ (x : List A). x ++ p.0) q.1 ∙ append_assoc c q.0 p.0))

  pub all_longer : (seen rest : List A) (own : List (ℕ × A)) → AllAt seen own → AllAt (seen ++ rest) own
  all_longer seen rest [] h = tt
  all_longer seen rest (x ∷ xs) h = (at_longer seen rest x.0 x.1 h.0, all_longer seen rest xs h.1)

  pub all_further : (log seen : List A) (own : List (ℕ × A)) → StartsWith log seen → AllAt seen own → AllAt log own
  all_further log seen own p h = subst (λ (l : List A). AllAt l own) (sym p.1) (all_longer seen p.0 own h)

  pub at_below : (l : List A) (i : ℕ) (a : A) → get_elem? l i ≡ some a → i < length l
  at_below [] i a e = absurd (some-ne-none a (sym e))
  at_below (x ∷ xs) zero a e = omega arith
  at_below (x ∷ xs) (suc i) a e = let h = at_below xs i a e in omega arith

  -- of two beginnings of one list the shorter begins the longer
  pub begins : (log a b : List A) → StartsWith log a → StartsWith log b → length b ≤ length a → StartsWith a b
  begins log a [] p q le = (a, refl)
  begins log [] (y ∷ ys) p q le = absurd (omega arith)
  begins [] (x ∷ xs) (y ∷ ys) p q le = absurd (cons_nil p.1)
    where
      cons_nil : {x : A} {xs : List A} → [] ≡ x ∷ xs → ⊥
      cons_nil e = cc
  begins (l ∷ ls) (x ∷ xs) (y ∷ ys) p q le =
      let r = begins ls xs ys (p.0, tail_same p.1) (q.0, tail_same q.1) (omega arith) in
      (r.0, head_same (head_is (p.1)) (head_is (q.1)) r.1)
    where
      tail_same : {a b : A} {xs ys : List A} → a ∷ xs ≡ b ∷ ys → xs ≡ ys
      tail_same e = cc

      head_is : {a b : A} {xs ys : List A} → a ∷ xs ≡ b ∷ ys → a ≡ b
      head_is e = cc

      head_same : {l x y : A} {xs ys : List A} → l ≡ x → l ≡ y → xs ≡ ys → x ∷ xs ≡ y ∷ ys
      head_same a b c = cc

  -- a beginning as long as the list is the list
  pub whole : (log a : List A) → StartsWith log a → length log ≤ length a → a ≡ log
  whole log a p le = none_left p.0 (sym p.1) (let e = ap (λ (l : List A). length l) p.1 in let n = length-append a p.0 in omega arith)
    where
      none_left : (r : List A) → a ++ r ≡ log → length r ≡ 0 → a ≡ log
      none_left [] e n = sym (append-nil a) ∙ e
      none_left (x ∷ xs) e n = absurd (omega arith)

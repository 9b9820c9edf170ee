-- Entries with their places.
use Rattle.std.proofs.Common.{◌≡◌, ℕ, ◌+◌, ◌==◌, List, [], ◌∷◌, ◌++◌, cond, length, drop, refl, sym, ◌∙◌, ap, arith, subst, append_assoc}
use Rattle.std.proofs.lemmas.Bool.Decides.{nat_tests}
use Rattle.std.proofs.Math.Seq.{drop-append_seam}
use Rattle.std.proofs.lemmas.List.{length-append}
use mathlib.Core.Option.{some}
use lib.ListN.{get_elem?}
use Rattle.opt_gate.specs.Lists.{StartsWith, AllAt, times, once_below}
use Rattle.opt_gate.specs.inside.Totals.{placed_from}
use Rattle.opt_gate.proofs.Prefixes.{all_longer}

pub once_more : (p n : ℕ) → once_below p n + cond (n == p) 1 0 ≡ once_below p (n + 1)
once_more p n = grind (arith, nat_tests)

module _ {A : Type 0} where
  pub times_append : (p : ℕ) (a b : List (ℕ × A)) → times p (a ++ b) ≡ times p a + times p b
  times_append p [] b = omega arith
  times_append p (x ∷ xs) b = let h = times_append p xs b in omega arith

  pub times_placed : (p n : ℕ) (xs : List A) → once_below p n + times p (placed_from n xs) ≡ once_below p (n + length xs)
  times_placed p n [] = let e : n ≡ n + length {A = A} [] = omega arith in let q = ap (λ (k : ℕ). once_below p k) e in omega arith
  times_placed p n (x ∷ xs) = let h = times_placed p (n + 1) xs in let o = once_more p n in
      let e : (n + 1) + length xs ≡ n + length (x ∷ xs) = omega arith in let q = ap (λ (k : ℕ). once_below p k) e in omega arith

  pub all_append : (log : List A) (a b : List (ℕ × A)) → AllAt log a → AllAt log b → AllAt log (a ++ b)
  all_append log [] b h k = k
  all_append log (x ∷ xs) b h k = (h.0, all_append log xs b h.1 k)

  at_longer' : (seen : List A) (x : A) (xs : List A) → get_elem? (seen ++ x ∷ xs) (length seen) ≡ some x
  at_longer' [] x xs = refl
  at_longer' (s ∷ ss) x xs = at_longer' ss x xs

  all_placed : (seen xs : List A) → AllAt (seen ++ xs) (placed_from (length seen) xs)
  all_placed seen [] = tt
  all_placed seen (x ∷ xs) =
      let step : (seen ++ x ∷ []) ++ xs ≡ seen ++ x ∷ xs = append_assoc seen (x ∷ []) xs in
      let long : length (seen ++ x ∷ []) ≡ length seen + 1 = length-append seen (x ∷ []) in (
        at_longer' seen x xs,
        subst (λ (l : List A). AllAt l (placed_from (length seen + 1) xs)) step (subst (λ (k : ℕ). AllAt ((seen ++ x ∷ []) ++ xs) (placed_from k xs)) long (all_placed (seen ++ x ∷ []) xs)),
      )

  pub rest_is : (log seen : List A) → (p : StartsWith log seen) → drop (length seen) log ≡ p.0
  rest_is log seen p = ap (λ (l : List A). drop (length seen) l) p.1 ∙ drop-append_seam seen p.0

  -- the own entries and those past what was known
  pub owns_more : (log seen : List A) (own : List (ℕ × A)) → StartsWith log seen → AllAt seen own → AllAt log (own ++ placed_from (length seen) (drop (length seen) log))
  owns_more log seen own p h = subst (λ (l : List A). AllAt l (own ++ placed_from (length seen) (drop (length seen) log))) (sym p.1)
      (subst (λ (l : List A). AllAt (seen ++ p.0) (own ++ placed_from (length seen) l)) (sym (rest_is log seen p))
      (all_append (seen ++ p.0) own (placed_from (length seen) p.0) (all_longer seen p.0 own h) (all_placed seen p.0)))

  -- each place of the log is counted once more
  pub counts_more : (p : ℕ) (log seen : List A) → StartsWith log seen → once_below p (length seen) + times p (placed_from (length seen) (drop (length seen) log)) ≡ once_below p (length log)
  counts_more p log seen s = ap (λ (l : List A). once_below p (length seen) + times p (placed_from (length seen) l)) (rest_is log seen s) ∙ (times_placed p (length seen) s.0 ∙ ap (λ (k : ℕ). once_below p k) (sym (ap length s.1 ∙ length-append seen s.0)))

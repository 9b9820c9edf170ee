-- What the rule shows of a view that has room.
use Rattle.std.proofs.Common.{◌≡◌, ℕ, ◌+◌, ◌≤◌, ◌<◌, ◌==◌, ⊎_elim, List, [], ◌∷◌, Bool, true, false, Option, Some, cond, nat_lt, length, refl, sym, ◌∙◌, ap, arith, subst}
use Rattle.std.proofs.lemmas.Bool.Decides.{nat_tests}
use Rattle.opt_core.specs.declared.event.Ending.{Ending}
use Rattle.opt_core.specs.declared.event.Ending.TheVariants as ending
use Rattle.opt_gate.specs.declared.view.View.{View}
use Rattle.opt_gate.specs.Lists.{times, once_below, AllAt, StartsWith}
use Rattle.opt_gate.specs.inside.Totals.{total}
use Rattle.opt_gate.specs.inside.Rule.{At, Turns, Knows, Tally}
use Rattle.opt_gate.specs.inside.Plays.{Shows}
use Rattle.opt_gate.proofs.Sums.{part_le, total_alone}
use Rattle.opt_gate.proofs.Prefixes.{at_below, whole}

at_most_once : (p n : ℕ) → once_below p n ≤ 1
at_most_once p n = by (nat_lt p n)
  where
    by : (b : Bool) → cond b 1 0 ≤ 1
    by true = omega arith
    by false = omega arith

below_once : (p n : ℕ) → p < n → once_below p n ≡ 1
below_once p n h = grind (arith, nat_tests)

module _ {A : Type 0} where
  -- a place that is counted lies in the list
  pub counted_below : (list : List A) (own : List (ℕ × A)) (p : ℕ) → AllAt list own → 0 < times p own → p < length list
  counted_below list [] p h some = absurd (omega arith)
  counted_below list (x ∷ xs) p h some = by (x.0 == p) refl (counted_below list xs p h.1)
    where
      by : (b : Bool) → (x.0 == p) ≡ b → (0 < times p xs → p < length list) → p < length list
      by true e later = let same : x.0 ≡ p = grind (arith, nat_tests) in let n = at_below list x.0 x.1 h.0 in omega arith
      by false e later = let left : 0 < cond false 1 0 + times p xs = subst (λ (b : Bool). 0 < cond b 1 0 + times p xs) e some in later (omega arith)

  -- a beginning in which each place of the list is counted is the list
  pub all_counted : (list seen : List A) (own : List (ℕ × A)) → StartsWith list seen → AllAt seen own → ((p : ℕ) → times p own ≡ once_below p (length list)) → seen ≡ list
  all_counted [] seen own s h all = whole [] seen s (omega arith)
  all_counted (x ∷ xs) seen own s h all = whole (x ∷ xs) seen s
      (let one = below_once (length xs) (length (x ∷ xs)) (omega arith) in let each = all (length xs) in
      let here = counted_below seen own (length xs) h (omega arith) in omega arith)

some_key : {K : Type 0} (a b : K) → Some a ≡ Some b → a ≡ b
some_key a b e = cc

module _ {K F R : Type 0} (passes : K → ℕ) (key : K) (served drawn : ℕ) (ws : List ℕ) (log : List F) (end : Option (Ending R)) (views : List (View K F R))
    (turns : Turns served drawn (passes key) ws views) (knowing : (i : ℕ) (u : View K F R) → At views i u → Knows key log end u) (tally : Tally log end views)
    (id : ℕ) (v : View K F R) (at : At views id v) (some_room : 0 < v.room) where
  its_key : (k : K) → v.key ≡ Some k → key ≡ k
  its_key k is = ⊎_elim (λ e. some_key key k (sym e ∙ is)) (λ none. absurd (omega arith)) (knowing id v at).keyed

  -- no other view has room
  all_room : (k : K) → v.key ≡ Some k → v.room ≡ passes k → total (λ (u : View K F R). u.room) views ≡ v.room
  all_room k is full = turns.rooms ∙ (ap passes (its_key k is) ∙ sym full)

  all_own : (k : K) → v.key ≡ Some k → v.room ≡ passes k → (p : ℕ) → times p v.own ≡ once_below p (length log)
  all_own k is full p = sym (total_alone (λ (x : View K F R). times p x.own) (λ (x : View K F R). x.room) views id v at (all_room k is full)
      (λ j u e none. ap (λ (own : List (ℕ × F)). times p own) ((knowing j u e).idle none).0)) ∙ tally.once p

  pub knows_all : (k : K) → v.key ≡ Some k → v.room ≡ passes k → v.knows ≡ log
  knows_all k is full = let n = knowing id v at in all_counted log v.knows v.own n.known n.own (all_own k is full)

  pub told : Shows passes v
  told = let n = knowing id v at in record {
    own = n.own;
    once = λ p. let a = part_le (λ (x : View K F R). times p x.own) views id v at in let b = tally.once p in let c = at_most_once p (length log) in omega arith;
    other = n.other;
    other_ended = n.other_ended;
    narrow = let a = part_le (λ (x : View K F R). x.room) views id v at in let b = turns.rooms in let c = turns.few in omega arith;
    all_own = λ k is full p. all_own k is full p ∙ ap (λ (l : List F). once_below p (length l)) (sym (knows_all k is full));
    all_stops = λ k is full e. subst (λ (n : ℕ). 0 < n) (total_alone (λ (x : View K F R). x.stops) (λ (x : View K F R). x.room) views id v at (all_room k is full)
        (λ j u e none. ((knowing j u e).idle none).1)) (tally.stopped ((n.ended ending.Stopped e).0));
  }

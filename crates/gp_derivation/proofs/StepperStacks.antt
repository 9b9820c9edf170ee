-- The numbers of live items.
use Rattle.std.proofs.Common.{◌≡◌, ℕ, zero, suc, ◌+◌, ◌-◌, ◌≤◌, List, [], ◌∷◌, ◌++◌, length, take, drop, Some, slice_get, get_or, add-one, sym, subst, ap, refl, ◌∙◌, arith, length-drop}
use Rattle.std.proofs.lemmas.Option.{slice_get-get_or}
use Rattle.gp_memory.proofs.Basics.{drop_suc as dropped_next}
use Rattle.gp_values.specs.Graph.{Graph}
use Rattle.gp_syntax.specs.Rule.{Rule, Found}
use Rattle.gp_syntax.specs.Run.{Item, Stepped, Turned, Back}
use Rattle.gp_journal.specs.Trail.{Trail, undone, back_by}
use Rattle.gp_journal.specs.Leads.{AppliesBy, Goes, Leads}
use Rattle.gp_derivation.specs.inside.Stands.{Stacks, stacks_after, stacks_at, GoesOnly, StepsOn}
use Rattle.gp_derivation.proofs.StepperMoves.{taken_next, leads_last}

-- ---- taking back

undone_last : (k : ℕ) (t : Trail) → back_by k (undone t) ≡ undone (back_by k t)
undone_last zero t = refl
undone_last (suc k) t = undone_last k (undone t)

module _ (rules : List Rule) (is : List Item) where
  pub steps_back : (ns : List ℕ) (t u : Trail) → StepsOn rules is ns t u → back_by (length ns) u ≡ t
  steps_back [] t u s = s
  steps_back (n ∷ ns) t u s = undone_last (length ns) u ∙ ap undone (steps_back ns s.1 u s.4 ∙ s.3.2)

  pub steps_depth : (ns : List ℕ) (t u : Trail) → StepsOn rules is ns t u → length u.before ≡ length t.before + length ns
  steps_depth [] t u s = ap (λ (x : Trail). length x.before) s ∙ (let z : length t.before ≡ length t.before + 0 = omega arith in z)
  steps_depth (n ∷ ns) t u s =
      let d = steps_depth ns s.1 u s.4 in
      let e : length s.1.before ≡ suc (length t.before) = ap (λ (x : Trail). length x.before) s.3.2 in
      omega arith

  pub steps_more : (ns : List ℕ) (n : ℕ) (m : Found) (t u v : Trail) → StepsOn rules is ns t u → slice_get is n ≡ Some (Stepped m) → Goes rules (Stepped m) u v → StepsOn rules is (ns ++ n ∷ []) t v
  steps_more [] n m t u v s e g = (m, v, e, subst (λ x. Goes rules (Stepped m) x v) s g, refl)
  steps_more (k ∷ ns) n m t u v s e g = (s.0, s.1, s.2, s.3, steps_more ns n m s.1 u v s.4 e g)

  steps_apart : (k : ℕ) (ns : List ℕ) (t u : Trail) → StepsOn rules is ns t u → (v : Trail) × StepsOn rules is (take k ns) t v × StepsOn rules is (drop k ns) v u
  steps_apart zero ns t u s = (t, refl, s)
  steps_apart (suc k) [] t u s = (t, refl, s)
  steps_apart (suc k) (n ∷ ns) t u s = let r = steps_apart k ns s.1 u s.4 in (r.0, (s.0, s.1, s.2, s.3, r.1), r.2)

  -- ---- steps made one after another

  -- those from the k-th on
  from_next : (ns : List ℕ) (k n : ℕ) (t u : Trail) → slice_get ns k ≡ Some n → StepsOn rules is (drop k ns) t u → StepsOn rules is (n ∷ drop (suc k) ns) t u
  from_next ns k n t u e s = subst (λ l. StepsOn rules is l t u) (dropped_next ns k n e) s

  pub found_next : (ns : List ℕ) (k n : ℕ) (t : Trail) → slice_get ns k ≡ Some n → ((u : Trail) × StepsOn rules is (drop k ns) t u) → (m : Found) × (slice_get is n ≡ Some (Stepped m))
  found_next ns k n t e w = let s = from_next ns k n t w.0 e w.1 in (s.0, s.2)

  one_found : (n : ℕ) (m l : Found) → slice_get is n ≡ Some (Stepped m) → slice_get is n ≡ Some (Stepped l) → l ≡ m
  one_found n m l e f = let x : Some (Stepped l) ≡ Some (Stepped m) = sym f ∙ e in cc

  pub applies_next : (ns : List ℕ) (k n : ℕ) (m : Found) (t : Trail) → slice_get ns k ≡ Some n → slice_get is n ≡ Some (Stepped m) → ((u : Trail) × StepsOn rules is (drop k ns) t u) → AppliesBy rules t.graph m
  applies_next ns k n m t e f w =
      let s = from_next ns k n t w.0 e w.1 in
      let g = s.3.1 in
      subst (AppliesBy rules t.graph) (one_found n m s.0 f s.2) (record { rule = g.rule; is_rule = g.is_rule; applies = (g.step.0, g.step.1) })

  behind_next : (ns : List ℕ) (k n : ℕ) (m : Found) (t v u : Trail) → slice_get ns k ≡ Some n → slice_get is n ≡ Some (Stepped m) → GoesOnly rules (Stepped m) t v → StepsOn rules is (drop k ns) t u → StepsOn rules is (drop (k + 1) ns) v u
  behind_next ns k n m t v u e f g w =
      let s = from_next ns k n t u e w in
      let there : s.1 ≡ v = g.only s.1 (subst (λ l. Goes rules (Stepped l) t s.1) (one_found n m s.0 f s.2) s.3) in
      rw add-one (subst (λ x. StepsOn rules is (drop (suc k) ns) x u) there s.4)

  pub step_more : (ns : List ℕ) (k n : ℕ) (m : Found) (first t v : Trail) → slice_get ns k ≡ Some n → slice_get is n ≡ Some (Stepped m) → GoesOnly rules (Stepped m) t v
      → StepsOn rules is (take k ns) first t → ((u : Trail) × StepsOn rules is (drop k ns) t u) → ((u : Trail) → StepsOn rules is ns first u → StepsOn rules is (drop k ns) t u)
      → record {
        so_far : StepsOn rules is (take (k + 1) ns) first v;
        onward : (u : Trail) × StepsOn rules is (drop (k + 1) ns) v u;
        only : (u : Trail) → StepsOn rules is ns first u → StepsOn rules is (drop (k + 1) ns) v u;
      }
  step_more ns k n m first t v e f g past w one = record {
    so_far = rw (add-one, taken_next ns k n e) (steps_more (take k ns) n m first t v past f g.goes);
    onward = (w.0, behind_next ns k n m t v w.0 e f g w.1);
    only = λ u s. behind_next ns k n m t v u e f g (one u s);
  }

  -- ---- the live numbers are those of the live steps

  -- the last k of them, from where they are taken back
  pub last_steps : (k : ℕ) (ns : List ℕ) (t u : Trail) → t.before ≡ [] → k ≤ length u.before → StepsOn rules is ns t u
      → (k ≤ length ns) × StepsOn rules is (take (length ns - k) ns) t (back_by k u) × StepsOn rules is (drop (length ns - k) ns) (back_by k u) u
  last_steps k ns t u none l s =
      let r = steps_apart (length ns - k) ns t u s in
      let deep = steps_depth ns t u s in
      let flat : length t.before ≡ 0 = ap (λ (bs : List Graph). length bs) none in
      let long : k ≤ length ns = omega arith in
      let count : length (drop (length ns - k) ns) ≡ k = length-drop (length ns - k) ns ∙ (let z : length ns - (length ns - k) ≡ k = omega arith in z) in
      let there : back_by k u ≡ r.0 = subst (λ j. back_by j u ≡ r.0) count (steps_back (drop (length ns - k) ns) r.0 u r.2) in
      (long, subst (StepsOn rules is (take (length ns - k) ns) t) (sym there) r.1, subst (λ x. StepsOn rules is (drop (length ns - k) ns) x u) (sym there) r.2)

  next_live : (n : ℕ) (i : Item) (s : Stacks) (t u v : Trail) → t.before ≡ [] → slice_get is n ≡ Some i → StepsOn rules is s.live t u → Goes rules i u v → StepsOn rules is (stacks_after n (Some i) s).live t v
  next_live n (Stepped m) s t u v none e w g = steps_more s.live n m t u v w e g
  next_live n Turned s t u v none e w g = subst (StepsOn rules is s.live t) (sym g) w
  next_live n (Back k) s t u v none e w g = subst (StepsOn rules is (take (length s.live - k) s.live) t) (sym g.1) (last_steps k s.live t u none g.0 w).1

  pub live_steps : (n : ℕ) (t u : Trail) → n ≤ length is → t.before ≡ [] → Leads rules (take n is) t u → StepsOn rules is (stacks_at is n).live t u
  live_steps zero t u l none w = w
  live_steps (suc n) t u l none w =
      let e = slice_get-get_or is n Turned (omega arith) in
      let i = get_or is n Turned in
      let r = leads_last rules (take n is) i t u (subst (λ js. Leads rules js t u) (taken_next is n i e) w) in
      subst (λ o. StepsOn rules is (stacks_after n o (stacks_at is n)).live t u) (sym e) (next_live n i (stacks_at is n) t r.0 u none e (live_steps n t r.0 (omega arith) none r.1) r.2)

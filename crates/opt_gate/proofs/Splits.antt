-- Splitting a pass in two keeps the rule, and the table opens in it.
use Rattle.std.proofs.Common.{◌≡◌, ◌≢◌, ℕ, ◌^◌, ◌≤◌, ◌<◌, ◌⊎◌, inl, inr, ⊎_elim, List, [], ◌∷◌, ◌++◌, false, Option, Some, None, set, refl, sym, ◌∙◌, ap, arith, subst}
use Rattle.std.proofs.lemmas.Bool.Decides.{nat_tests}
use mathlib.Core.Option as core
use lib.ListN.{get_elem?}
use Rattle.atomic_table.specs.Table.{Splits, opening}
use Rattle.atomic_table.proofs.Lists.{at_set, at_snoc, set_else, at_longer}
use Rattle.opt_core.specs.declared.event.Ending.{Ending}
use Rattle.opt_core.specs.declared.event.Ending.TheVariants as ending
use Rattle.opt_gate.specs.declared.view.View.{View}
use Rattle.opt_gate.specs.Lists.{times, once_below}
use Rattle.opt_gate.specs.inside.Rule.{view, has_ticket, At, Turns, Knows, Placed, Ruled}
use Rattle.opt_gate.specs.inside.Plays.{split_left, split_right}
use Rattle.opt_system.specs.Meaning.{Meaning}
use Rattle.opt_core.specs.Core.{Core}
use Rattle.opt_core.specs.Runs.{SameStart}
use Rattle.opt_gate.specs.declared.key.Key.{Key}
use Rattle.opt_gate.specs.inside.Cores.{entries_of, ended_of, IsOfKey, passes_of, first_view}
use Rattle.opt_gate.proofs.Sums.{total_set, total_same, total_snoc}
use Rattle.opt_gate.proofs.Draws.{not_served, none_has, no_ending}
use Rattle.opt_gate.proofs.Passes.{not_none, off_on}

module _ {K F R : Type 0} (id : ℕ) (v : View K F R) (idle : v.ticket ≡ None) (calm : v.served ≡ false) (two : 2 ≤ v.room) where
  -- an old view that is another's, or one of the two new ones
  cases : (views : List (View K F R)) (i : ℕ) (u : View K F R) (P : Type 0) → At (set views id (split_left v) ++ split_right v ∷ []) i u
      → (split_left v ≡ u → P) → (split_right v ≡ u → P) → (i ≢ id → At views i u → P) → P
  cases views i u P e left right old = ⊎_elim (λ s. ⊎_elim (λ z. left z.1) (λ z. old z.0 z.1) (at_set views id i (split_left v) u s)) (λ s. right s) (at_snoc (set views id (split_left v)) (split_right v) u i e)

  split_turns : (served drawn n : ℕ) (ws : List ℕ) (views : List (View K F R)) → Turns served drawn n ws views → At views id v → Turns served drawn n ws (set views id (split_left v) ++ split_right v ∷ [])
  split_turns served drawn n ws views t at =
      let l = split_left v in let r = split_right v in
      let a = total_set (λ (u : View K F R). u.room) views id v l at in let b = total_snoc (λ (u : View K F R). u.room) (set views id l) r in
      let c = total_set has_ticket views id v l at in let d = total_snoc has_ticket (set views id l) r in
      let none = none_has v.ticket idle in let queue = t.queue in let rooms = t.rooms in record {
        words_are = t.words_are;
        few = t.few;
        rooms = omega arith;
        queue = omega arith;
        roomy = λ i u e. cases views i u (has_ticket u ≤ u.room) e (λ s. subst (λ (x : View K F R). has_ticket x ≤ x.room) s (omega arith)) (λ s. subst (λ (x : View K F R). has_ticket x ≤ x.room) s (omega arith)) (λ o s. t.roomy i u s);
        in_turn = λ i k u e is. cases views i u ((served ≤ k) × (k < drawn)) e (λ s. absurd (not_none k (ap (λ (x : View K F R). x.ticket) s ∙ is))) (λ s. absurd (not_none k (ap (λ (x : View K F R). x.ticket) s ∙ is))) (λ o s. t.in_turn i k u s is);
        apart = λ i j k u x ei ej iu ix. cases views i u (i ≡ j) ei (λ s. absurd (not_none k (ap (λ (y : View K F R). y.ticket) s ∙ iu))) (λ s. absurd (not_none k (ap (λ (y : View K F R). y.ticket) s ∙ iu)))
            (λ o s. cases views j x (i ≡ j) ej (λ z. absurd (not_none k (ap (λ (y : View K F R). y.ticket) z ∙ ix))) (λ z. absurd (not_none k (ap (λ (y : View K F R). y.ticket) z ∙ ix))) (λ p z. t.apart i j k u x s z iu ix));
        is_served = λ i u e on. cases views i u (u.ticket ≡ Some served) e (λ s. absurd (off_on (sym on ∙ ap (λ (x : View K F R). x.served) (sym s)))) (λ s. absurd (off_on (sym on ∙ ap (λ (x : View K F R). x.served) (sym s)))) (λ o s. t.is_served i u s on);
      }

  module _ {C : Type 0} (entries : C → List F) (ended : C → Option (Ending R)) (Same : K → C → Type 0) (passes : K → ℕ) (key : K) where
    split_placed : (log : List F) (end : Option (Ending R)) (homes : List (core.Option (Option C))) (views : List (View K F R)) → At views id v
        → Placed entries ended Same passes key log end homes views → Placed entries ended Same passes key log end homes (set views id (split_left v) ++ split_right v ∷ [])
    split_placed log end homes views at p = ⊎_elim
        (λ h. inl (h.0, h.1, h.2, h.3, h.4, λ i u e. cases views i u (u.served ≡ false) e (λ s. ap (λ (x : View K F R). x.served) (sym s) ∙ refl) (λ s. ap (λ (x : View K F R). x.served) (sym s)) (λ o s. h.5 i u s)))
        (λ h. inr (h.0, h.1, at_longer (set views id (split_left v)) (split_right v ∷ []) h.0 h.1 (set_else views id h.0 (split_left v) (not_served views h.0 id h.1 v h.2 at h.3 calm) ∙ h.2), h.3, h.4, h.5)) p

    keyed : (v.key ≡ Some key) ⊎ (v.room ≡ 0) → {n : ℕ} → (v.key ≡ Some key) ⊎ (n ≡ 0)
    keyed k = ⊎_elim (λ e. inl e) (λ none. absurd (omega arith)) k

    pub splits : Splits (Ruled entries ended Same passes key) id v (split_left v) (split_right v)
    splits s r at = let l = split_left v in let k = r.knowing id v at in record {
      served = r.served;
      drawn = r.drawn;
      log = r.log;
      end = r.end;
      turns = split_turns r.served r.drawn (passes key) s.words s.views r.turns at;
      placed = split_placed r.log r.end s.homes s.views at r.placed;
      knowing = λ i u e. cases s.views i u (Knows key r.log r.end u) e
          (λ z. subst (λ (x : View K F R). Knows key r.log r.end x) z record { keyed = keyed k.keyed; known = k.known; ended = k.ended; own = k.own; idle = λ none. absurd (omega arith); other = (v.knows, refl); other_ended = λ x e. absurd (no_ending x e) })
          (λ z. subst (λ (x : View K F R). Knows key r.log r.end x) z record { keyed = keyed k.keyed; known = k.known; ended = k.ended; own = tt; idle = λ none. absurd (omega arith); other = (v.knows, refl); other_ended = λ x e. absurd (no_ending x e) })
          (λ o z. r.knowing i u z);
      tally = record {
        once = λ p. let a = total_same (λ (x : View K F R). times p x.own) s.views id v l at refl in let b = total_snoc (λ (x : View K F R). times p x.own) (set s.views id l) (split_right v) in let t = r.tally.once p in omega arith;
        stopped = λ e. let a = total_same (λ (x : View K F R). x.stops) s.views id v l at refl in let b = total_snoc (λ (x : View K F R). x.stops) (set s.views id l) (split_right v) in let t = r.tally.stopped e in omega arith;
      };
    }

none_below : (p : ℕ) → 0 ≡ once_below p 0
none_below p = grind (arith, nat_tests)

single : {A : Type 0} (v u : A) (i : ℕ) → get_elem? (v ∷ []) i ≡ core.some u → v ≡ u
single v u i e = ⊎_elim (λ none. absurd (core.some-ne-none u (sym none))) (λ s. s) (at_snoc [] v u i e)

module _ {K F R C : Type 0} (entries : C → List F) (ended : C → Option (Ending R)) (Same : K → C → Type 0) (passes : K → ℕ) (key : K) where
  pub opens : (c : C) → Same key c → entries c ≡ [] → ended c ≡ None → 0 < passes key → passes key < 2 ^ 64
      → Ruled entries ended Same passes key (opening (0 ∷ 0 ∷ []) (Some c ∷ []) (view (Some key) (passes key) [] None [] 0 None false))
  opens c same none open_ some few = let v : View K F R = view (Some key) (passes key) [] None [] 0 None false in record {
    served = 0;
    drawn = 0;
    log = [];
    end = None;
    turns = record {
      words_are = refl;
      few = few;
      rooms = omega arith;
      queue = refl;
      roomy = λ i u e. subst (λ (x : View K F R). has_ticket x ≤ x.room) (single v u i e) (omega arith);
      in_turn = λ i k u e is. absurd (not_none k (ap (λ (x : View K F R). x.ticket) (single v u i e) ∙ is));
      apart = λ i j k u x ei ej iu ix. absurd (not_none k (ap (λ (y : View K F R). y.ticket) (single v u i ei) ∙ iu));
      is_served = λ i u e on. absurd (off_on (sym on ∙ ap (λ (x : View K F R). x.served) (sym (single v u i e))));
    };
    placed = inl (c, refl, same, none, open_, λ i u e. ap (λ (x : View K F R). x.served) (sym (single v u i e)));
    knowing = λ i u e. subst (λ (x : View K F R). Knows key [] None x) (single v u i e) record { keyed = inl refl; known = ([], refl); ended = λ x no. absurd (no_ending x no); own = tt; idle = λ none. (refl, refl); other = ([], refl); other_ended = λ x no. absurd (no_ending x no) };
    tally = record { once = λ p. none_below p; stopped = λ no. absurd (no_ending ending.Stopped no) };
  }

module _ {System State Found Goal Reason : Type 0} (means : System → Meaning State Found Goal Reason) where
  pub opens_at : (key : Key (Core System State Found Goal Reason)) (c : Core System State Found Goal Reason) (slots : List (Option (Core System State Found Goal Reason))) → key.core.value ≡ c → slots ≡ Some c ∷ [] → c.entries ≡ [] → c.ending ≡ None
      → 0 < key.passes → key.passes < 2 ^ 64 → Ruled entries_of ended_of (IsOfKey means) passes_of key (opening (0 ∷ 0 ∷ []) slots (first_view key))
  opens_at key c slots is one none open_ some few =
      let same : IsOfKey means key c = (subst (λ (x : Core System State Found Goal Reason). SameStart x c) (sym is) record { system = refl; base = refl; goal = refl; given = refl }, ([], sym is)) in
      let P : List (Option (Core System State Found Goal Reason)) → Type 0 = λ l. Ruled entries_of ended_of (IsOfKey means) passes_of key (opening (0 ∷ 0 ∷ []) l (first_view key)) in
      subst P (sym one) (opens entries_of ended_of (IsOfKey means) passes_of key c same none open_ some few)

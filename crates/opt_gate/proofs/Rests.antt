-- A load by a seat without a ticket keeps the rule, and shows of its view.
use Rattle.std.proofs.Common.{◌≡◌, ℕ, ◌^◌, ◌≤◌, ◌<◌, inl, inr, ⊎_elim, List, [], false, Option, None, set, get_or, refl, sym, ◌∙◌, ap, arith, subst}
use mathlib.Core.Option as core
use Rattle.atomic_table.specs.Table.{Me, Step, Allows, step, keeps}
use Rattle.atomic_table.proofs.Lists.{at_set, set_else}
use Rattle.opt_core.specs.declared.event.Ending.{Ending}
use Rattle.opt_gate.specs.declared.view.View.{View}
use Rattle.opt_gate.specs.Lists.{times}
use Rattle.opt_gate.specs.inside.Rule.{has_ticket, At, Turns, Knows, Placed, Ruled}
use Rattle.opt_gate.specs.inside.Plays.{resting, Shown, Shows}
use Rattle.opt_gate.proofs.Sums.{total_same}
use Rattle.opt_gate.proofs.Tickets.{same_words}
use Rattle.opt_gate.proofs.Draws.{no_true, none_has, no_ending, not_served}
use Rattle.opt_gate.proofs.Passes.{not_none}
use Rattle.opt_gate.proofs.Shows.{told}

module _ {K F R : Type 0} (id : ℕ) (v : View K F R) (idle : v.ticket ≡ None) (calm : v.served ≡ false) where
  rest_turns : (served drawn n : ℕ) (ws : List ℕ) (views : List (View K F R)) → Turns served drawn n ws views → At views id v
      → Turns served drawn n (set ws 0 (get_or ws 0 0)) (set views id (resting v))
  rest_turns served drawn n ws views t at =
      let w = resting v in
      let same = total_same has_ticket views id v w at (sym (none_has v.ticket idle)) in let queue = t.queue in record {
        words_are = same_words served drawn (2 ^ 64) ws t.words_are;
        few = t.few;
        rooms = total_same (λ (u : View K F R). u.room) views id v w at refl ∙ t.rooms;
        queue = omega arith;
        roomy = λ i u e. ⊎_elim (λ s. subst (λ (x : View K F R). has_ticket x ≤ x.room) s.1 (omega arith)) (λ s. t.roomy i u s.1) (at_set views id i w u e);
        in_turn = λ i k u e is. ⊎_elim (λ s. absurd (not_none k (ap (λ (x : View K F R). x.ticket) s.1 ∙ is))) (λ s. t.in_turn i k u s.1 is) (at_set views id i w u e);
        apart = λ i j k u x ei ej iu ix. ⊎_elim (λ s. absurd (not_none k (ap (λ (y : View K F R). y.ticket) s.1 ∙ iu)))
            (λ s. ⊎_elim (λ z. absurd (not_none k (ap (λ (y : View K F R). y.ticket) z.1 ∙ ix))) (λ z. t.apart i j k u x s.1 z.1 iu ix) (at_set views id j w x ej)) (at_set views id i w u ei);
        is_served = λ i u e on. ⊎_elim (λ s. absurd (no_true false refl (ap (λ (x : View K F R). x.served) s.1 ∙ on))) (λ s. t.is_served i u s.1 on) (at_set views id i w u e);
      }

  module _ {C : Type 0} (entries : C → List F) (ended : C → Option (Ending R)) (Same : K → C → Type 0) (passes : K → ℕ) (key : K) where
    rest_placed : (log : List F) (end : Option (Ending R)) (homes : List (core.Option (Option C))) (views : List (View K F R)) → At views id v
        → Placed entries ended Same passes key log end homes views → Placed entries ended Same passes key log end homes (set views id (resting v))
    rest_placed log end homes views at p = ⊎_elim
        (λ h. inl (h.0, h.1, h.2, h.3, h.4, λ i u e. ⊎_elim (λ s. ap (λ (x : View K F R). x.served) (sym s.1)) (λ s. h.5 i u s.1) (at_set views id i (resting v) u e)))
        (λ h. inr (h.0, h.1, set_else views id h.0 (resting v) (not_served views h.0 id h.1 v h.2 at h.3 calm) ∙ h.2, h.3, h.4, h.5)) p

    rest_knows : (log : List F) (end : Option (Ending R)) → Knows key log end v → Knows key log end (resting v)
    rest_knows log end k = record { keyed = k.keyed; known = k.known; ended = k.ended; own = k.own; idle = k.idle; other = (v.knows, refl); other_ended = λ x e. absurd (no_ending x e) }

    pub rests : (slots : ℕ) (carried : List (ℕ × Option C)) → 0 < v.room → Allows (Ruled entries ended Same passes key) slots id (v, carried) 0 (λ n. n) (Shown passes (step slots 0 0 0 core.none) (v, carried))
    rests slots carried some s r long at wide =
        let w = resting v in (
          w,
          keeps,
          tt,
          record {
            served = r.served;
            drawn = r.drawn;
            log = r.log;
            end = r.end;
            turns = rest_turns r.served r.drawn (passes key) s.words s.views r.turns at;
            placed = rest_placed r.log r.end s.homes s.views at r.placed;
            knowing = λ i u e. ⊎_elim (λ z. subst (λ (x : View K F R). Knows key r.log r.end x) z.1 (rest_knows r.log r.end (r.knowing id v at))) (λ z. r.knowing i u z.1) (at_set s.views id i w u e);
            tally = record {
              once = λ p. total_same (λ (x : View K F R). times p x.own) s.views id v w at refl ∙ r.tally.once p;
              stopped = λ e. rw (total_same (λ (x : View K F R). x.stops) s.views id v w at refl) (r.tally.stopped e);
            };
          },
          (refl, told passes key r.served r.drawn s.words r.log r.end s.views r.turns r.knowing r.tally id v at some),
        )

module _ {K F R C : Type 0} (entries : C → List F) (ended : C → Option (Ending R)) (Same : K → C → Type 0) (passes : K → ℕ) (key : K) where
  pub rests_at : (id slots : ℕ) (v : View K F R) (m : Me (Option C) (View K F R)) → m ≡ (v, []) → v.ticket ≡ None → v.served ≡ false → 0 < v.room
      → Allows (Ruled entries ended Same passes key) slots id m 0 (λ n. n) (Shown passes (step slots 0 0 0 core.none) m)
  rests_at id slots v m e idle calm some =
      let P : Me (Option C) (View K F R) → Type 0 = λ x. Allows (Ruled entries ended Same passes key) slots id x 0 (λ n. n) (Shown passes (step slots 0 0 0 core.none) x) in
      subst P (sym e) (rests id v idle calm entries ended Same passes key slots [] some)

module _ {K F R C : Type 0} (passes : K → ℕ) where
  pub shown_me : (st : Step (Option C)) (v : View K F R) (m n : Me (Option C) (View K F R)) (r : ℕ) → m ≡ (v, []) → Shown passes st m r n → n ≡ (resting v, [])
  shown_me st v m n r e t = t.0 ∙ ap (λ (x : Me (Option C) (View K F R)). (resting x.0, x.1)) e

  pub shown_all : (st : Step (Option C)) (v : View K F R) (m n : Me (Option C) (View K F R)) (r : ℕ) → m ≡ (v, []) → Shown passes st m r n → Shows passes v
  shown_all st v m n r e t = subst (λ (x : Me (Option C) (View K F R)). Shows passes x.0) e t.1

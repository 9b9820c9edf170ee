-- A draw keeps the rule.
use Rattle.std.proofs.Common.{◌≡◌, ◌≢◌, ℕ, ◌+◌, ◌%◌, ◌^◌, ◌≤◌, ◌<◌, inl, inr, ⊎_elim, List, Bool, true, false, Option, Some, None, set, get_or, refl, sym, ◌∙◌, ap, arith, subst}
use mathlib.Core.Option as core
use lib.ListN.{get_elem?}
use Rattle.atomic_table.specs.Table.{Allows, step, keeps}
use Rattle.atomic_table.proofs.Lists.{at_set, set_else}
use Rattle.opt_core.specs.declared.event.Ending.{Ending}
use Rattle.opt_gate.specs.declared.view.View.{View}
use Rattle.opt_gate.specs.Lists.{times}
use Rattle.opt_gate.specs.inside.Rule.{has, has_ticket, At, Turns, Knows, Placed, Ruled}
use Rattle.opt_gate.specs.inside.Plays.{waiting, Drew}
use Rattle.opt_gate.proofs.Sums.{total_set, total_same}
use Rattle.opt_gate.proofs.Tickets.{next_word, drawn_words}

pub some_same : (a b : ℕ) → Some a ≡ Some b → a ≡ b
some_same a b e = cc

pub no_true : (b : Bool) → b ≡ false → b ≡ true → ⊥
no_true b f t = cc

pub no_ending : {R : Type 0} (x : Ending R) → ◌≡◌ {A = Option (Ending R)} None (Some x) → ⊥
no_ending x e = cc

pub none_has : (o : Option ℕ) → o ≡ None → has o ≡ 0
none_has o e = ap has e

module _ {K F R : Type 0} where
  -- who is served is not who is not
  pub not_served : (views : List (View K F R)) (i id : ℕ) (u v : View K F R) → At views i u → At views id v → u.served ≡ true → v.served ≡ false → i ≢ id
  not_served views i id u v ei ev on off e =
      let same : u ≡ v = core.some-injective u v (sym ei ∙ (ap (λ (k : ℕ). get_elem? views k) e ∙ ev)) in
      no_true v.served off (ap (λ (x : View K F R). x.served) (sym same) ∙ on)

module _ {K F R : Type 0} (id : ℕ) (v : View K F R) (idle : v.ticket ≡ None) (calm : v.served ≡ false) (some_room : 0 < v.room) where
  draw_turns : (served drawn passes : ℕ) (ws : List ℕ) (views : List (View K F R)) → Turns served drawn passes ws views → At views id v
      → Turns served (drawn + 1) passes (set ws 1 ((get_or ws 1 0 + 1) % 2 ^ 64)) (set views id (waiting v drawn))
  draw_turns served drawn passes ws views t at =
      let w = waiting v drawn in
      let one = total_set has_ticket views id v w at in
      let none = none_has v.ticket idle in
      let queue = t.queue in record {
        words_are = drawn_words served drawn (2 ^ 64) ws t.words_are;
        few = t.few;
        rooms = total_same (λ (u : View K F R). u.room) views id v w at refl ∙ t.rooms;
        queue = omega arith;
        roomy = λ i u e. ⊎_elim (λ s. subst (λ (x : View K F R). has_ticket x ≤ x.room) s.1 some_room) (λ s. t.roomy i u s.1) (at_set views id i w u e);
        in_turn = λ i n u e is. ⊎_elim
            (λ s. let same : drawn ≡ n = some_same drawn n (ap (λ (x : View K F R). x.ticket) s.1 ∙ is) in (omega arith, omega arith))
            (λ s. let old = t.in_turn i n u s.1 is in (old.0, omega arith)) (at_set views id i w u e);
        apart = λ i j n u x ei ej iu ix. ⊎_elim
            (λ s. ⊎_elim (λ z. s.0 ∙ sym z.0)
            (λ z. let same : drawn ≡ n = some_same drawn n (ap (λ (y : View K F R). y.ticket) s.1 ∙ iu) in let old = t.in_turn j n x z.1 ix in absurd (omega arith)) (at_set views id j w x ej))
            (λ s. ⊎_elim
            (λ z. let same : drawn ≡ n = some_same drawn n (ap (λ (y : View K F R). y.ticket) z.1 ∙ ix) in let old = t.in_turn i n u s.1 iu in absurd (omega arith))
            (λ z. t.apart i j n u x s.1 z.1 iu ix) (at_set views id j w x ej)) (at_set views id i w u ei);
        is_served = λ i u e on. ⊎_elim (λ s. absurd (no_true false refl (ap (λ (x : View K F R). x.served) s.1 ∙ on))) (λ s. t.is_served i u s.1 on) (at_set views id i w u e);
      }

  module _ {C : Type 0} (entries : C → List F) (ended : C → Option (Ending R)) (Same : K → C → Type 0) (passes : K → ℕ) (key : K) where
    draw_placed : (drawn : ℕ) (log : List F) (end : Option (Ending R)) (homes : List (core.Option (Option C))) (views : List (View K F R)) → At views id v
        → Placed entries ended Same passes key log end homes views → Placed entries ended Same passes key log end homes (set views id (waiting v drawn))
    draw_placed drawn log end homes views at p = ⊎_elim
        (λ h. inl (h.0, h.1, h.2, h.3, h.4, λ i u e. ⊎_elim (λ s. ap (λ (x : View K F R). x.served) (sym s.1)) (λ s. h.5 i u s.1) (at_set views id i (waiting v drawn) u e)))
        (λ h. inr (h.0, h.1, set_else views id h.0 (waiting v drawn) (not_served views h.0 id h.1 v h.2 at h.3 calm) ∙ h.2, h.3, h.4, h.5)) p

    keeps_knowing : {log : List F} {end : Option (Ending R)} (t : ℕ) → Knows key log end v → Knows key log end (waiting v t)
    keeps_knowing t k = record { keyed = k.keyed; known = k.known; ended = k.ended; own = k.own; idle = k.idle; other = (v.knows, refl); other_ended = λ x e. absurd (no_ending x e) }

    pub draws : (slots : ℕ) (carried : List (ℕ × Option C)) → Allows (Ruled entries ended Same passes key) slots id (v, carried) 1 (λ n. (n + 1) % 2 ^ 64) (Drew (step slots 1 1 0 core.none) (v, carried))
    draws slots carried s r long at wide =
        let w = waiting v r.drawn in (
          w,
          keeps,
          tt,
          record {
            served = r.served;
            drawn = r.drawn + 1;
            log = r.log;
            end = r.end;
            turns = draw_turns r.served r.drawn (passes key) s.words s.views r.turns at;
            placed = draw_placed r.drawn r.log r.end s.homes s.views at r.placed;
            knowing = λ i u e. ⊎_elim (λ z. subst (λ (x : View K F R). Knows key r.log r.end x) z.1 (keeps_knowing r.drawn (r.knowing id v at))) (λ z. r.knowing i u z.1) (at_set s.views id i w u e);
            tally = record {
              once = λ p. total_same (λ (x : View K F R). times p x.own) s.views id v w at refl ∙ r.tally.once p;
              stopped = λ e. rw (total_same (λ (x : View K F R). x.stops) s.views id v w at refl) (r.tally.stopped e);
            };
          },
          (r.drawn, sym (next_word r.served r.drawn (2 ^ 64) s.words r.turns.words_are), refl),
        )

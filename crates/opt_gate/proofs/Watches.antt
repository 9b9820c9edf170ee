-- A look at the word that is served keeps the rule.
use Rattle.std.proofs.Common.{◌≡◌, ℕ, ◌%◌, ◌^◌, ◌≤◌, ◌<◌, inr, ⊎_elim, List, [], ◌∷◌, false, Option, Some, set, get_or, refl, sym, ◌∙◌, ap, arith, subst}
use mathlib.Core.Option as core
use mathlib.Core.Logic.{dite}
use native.Mathlib.Decide.{ℕ_discrete}
use lib.ListN.{get_elem?}
use Rattle.atomic_table.specs.Table.{Me, Allows, step, keeps, takes}
use Rattle.atomic_table.proofs.Lists.{at_set, set_here, set_again, one_turn}
use Rattle.opt_core.specs.declared.event.Ending.{Ending}
use Rattle.opt_gate.specs.declared.view.View.{View}
use Rattle.opt_gate.specs.Lists.{times}
use Rattle.opt_gate.specs.inside.Rule.{has, has_ticket, At, Turns, Knows, Tally, Placed, Ruled}
use Rattle.opt_gate.specs.inside.Plays.{serving, Learns, Watched}
use Rattle.opt_gate.proofs.Sums.{total_same, total_le}
use Rattle.opt_gate.proofs.Tickets.{served_word, same_words}
use Rattle.opt_gate.proofs.Prefixes.{starts_self, all_further, at_below}
use Rattle.opt_gate.proofs.Draws.{some_same, not_served, no_ending}
use Rattle.opt_gate.proofs.Shows.{told}

some_key : {K : Type 0} (a b : K) → Some a ≡ Some b → a ≡ b
some_key a b e = cc

module _ {K F R : Type 0} where
  -- a ticket that is served modulo 2 ^ 64 is the one that is served
  pub is_mine : (served drawn passes : ℕ) (ws : List ℕ) (views : List (View K F R)) → Turns served drawn passes ws views
      → (id t : ℕ) (v : View K F R) → At views id v → v.ticket ≡ Some t → t % 2 ^ 64 ≡ served % 2 ^ 64 → served ≡ t
  is_mine served drawn passes ws views turns id t v at has_it e =
      let mine = turns.in_turn id t v at has_it in
      let most = total_le has_ticket (λ (u : View K F R). u.room) views turns.roomy in
      let queue = turns.queue in let rooms = turns.rooms in let few = turns.few in
      one_turn served t (2 ^ 64) mine.0 (omega arith) (sym e)

module _ {K F R : Type 0} (id : ℕ) (v : View K F R) (calm : v.served ≡ false) (t : ℕ) (mine : v.ticket ≡ Some t) where
  module _ {C : Type 0} (entries : C → List F) (ended : C → Option (Ending R)) (Same : K → C → Type 0) (passes : K → ℕ) (key : K) where
    -- the turns, where a view begins to be served
    serve_turns : (c : C) (served drawn n : ℕ) (ws : List ℕ) (views : List (View K F R)) → Turns served drawn n ws views → At views id v → served ≡ t
        → Turns served drawn n (set ws 0 (get_or ws 0 0)) (set views id (serving entries ended v c))
    serve_turns c served drawn n ws views turns at now =
        let w = serving entries ended v c in
        let same = total_same has_ticket views id v w at refl in let queue = turns.queue in record {
          words_are = same_words served drawn (2 ^ 64) ws turns.words_are;
          few = turns.few;
          rooms = total_same (λ (u : View K F R). u.room) views id v w at refl ∙ turns.rooms;
          queue = omega arith;
          roomy = λ i u e. ⊎_elim (λ s. subst (λ (x : View K F R). has_ticket x ≤ x.room) s.1 (turns.roomy id v at)) (λ s. turns.roomy i u s.1) (at_set views id i w u e);
          in_turn = λ i k u e is. ⊎_elim (λ s. turns.in_turn id k v at (ap (λ (x : View K F R). x.ticket) s.1 ∙ is)) (λ s. turns.in_turn i k u s.1 is) (at_set views id i w u e);
          apart = λ i j k u x ei ej iu ix. ⊎_elim
              (λ s. ⊎_elim (λ z. s.0 ∙ sym z.0) (λ z. s.0 ∙ turns.apart id j k v x at z.1 (ap (λ (y : View K F R). y.ticket) s.1 ∙ iu) ix) (at_set views id j w x ej))
              (λ s. ⊎_elim (λ z. turns.apart i id k u v s.1 at iu (ap (λ (y : View K F R). y.ticket) z.1 ∙ ix) ∙ sym z.0) (λ z. turns.apart i j k u x s.1 z.1 iu ix) (at_set views id j w x ej))
              (at_set views id i w u ei);
          is_served = λ i u e on. ⊎_elim (λ s. ap (λ (x : View K F R). x.ticket) (sym s.1) ∙ (mine ∙ ap Some (sym now))) (λ s. turns.is_served i u s.1 on) (at_set views id i w u e);
        }

    -- where the ticket is served, nobody has the core
    at_home : (served drawn n : ℕ) (ws : List ℕ) (log : List F) (end : Option (Ending R)) (homes : List (core.Option (Option C))) (views : List (View K F R))
        → Turns served drawn n ws views → At views id v → served ≡ t → Placed entries ended Same passes key log end homes views
        → (c : C) × (get_elem? homes 0 ≡ core.some (core.some (Some c))) × Same key c × (entries c ≡ log) × (ended c ≡ end)
    at_home served drawn n ws log end homes views turns at now p = ⊎_elim (λ h. (h.0, h.1, h.2, h.3, h.4))
        (λ h. let its : h.1.ticket ≡ Some served = turns.is_served h.0 h.1 h.2 h.3 in
        absurd (not_served views h.0 id h.1 v h.2 at h.3 calm (turns.apart h.0 id served h.1 v h.2 at its (mine ∙ ap Some (sym now))))) p

    serve_knows : (c : C) (log : List F) (end : Option (Ending R)) → Knows key log end v → entries c ≡ log → ended c ≡ end → Knows key log end (serving entries ended v c)
    serve_knows c log end k el ee = record {
      keyed = k.keyed;
      known = starts_self log (entries c) (sym el);
      ended = λ x e. (sym ee ∙ e, el);
      own = all_further (entries c) v.knows v.own (k.known.0, el ∙ k.known.1) k.own;
      idle = k.idle;
      other = (entries c, refl);
      other_ended = λ x e. absurd (no_ending x e);
    }

    module _ (c : C) (served drawn : ℕ) (ws : List ℕ) (log : List F) (end : Option (Ending R)) (views : List (View K F R))
        (turns : Turns served drawn (passes key) ws views) (knowing : (i : ℕ) (u : View K F R) → At views i u → Knows key log end u) (tally : Tally log end views) (at : At views id v)
        (now : served ≡ t) (same : Same key c) (el : entries c ≡ log) (ee : ended c ≡ end) where
      serve_knowing : (i : ℕ) (u : View K F R) → At (set views id (serving entries ended v c)) i u → Knows key log end u
      serve_knowing i u e = ⊎_elim (λ z. subst (λ (x : View K F R). Knows key log end x) z.1 (serve_knows c log end (knowing id v at) el ee)) (λ z. knowing i u z.1)
          (at_set views id i (serving entries ended v c) u e)

      serve_tally : Tally log end (set views id (serving entries ended v c))
      serve_tally = let w = serving entries ended v c in record {
        once = λ p. total_same (λ (x : View K F R). times p x.own) views id v w at refl ∙ tally.once p;
        stopped = λ e. rw (total_same (λ (x : View K F R). x.stops) views id v w at refl) (tally.stopped e);
      }

      learns : Learns entries ended Same passes v c
      learns =
          let k = knowing id v at in
          let room : 0 < v.room = (let r = turns.roomy id v at in let h = ap has mine in omega arith) in record {
            same = λ k' is. subst (λ (x : K). Same x c) (⊎_elim (λ e. some_key key k' (sym e ∙ is)) (λ none. absurd (omega arith)) k.keyed) same;
            further = (k.known.0, el ∙ k.known.1);
            stands = λ x e. let s = k.ended x e in (ee ∙ s.0, el ∙ sym s.1);
            shows = told passes key served drawn (set ws 0 (get_or ws 0 0)) log end (set views id (serving entries ended v c)) (serve_turns c served drawn (passes key) ws views turns at now)
                serve_knowing serve_tally id (serving entries ended v c) (set_here views id (serving entries ended v c) (at_below views id v at)) room;
          }

    pub watches : (slots : ℕ) → Allows (Ruled entries ended Same passes key) slots id (v, []) 0 (λ n. n) (Watched entries ended Same passes (step slots 0 0 0 core.none) (v, []))
    watches slots s r long at wide = dite (ℕ_discrete (t % 2 ^ 64) (get_or s.words 0 0))
        (λ hit. let now : r.served ≡ t = is_mine r.served r.drawn (passes key) s.words s.views r.turns id t v at mine (hit ∙ served_word r.served r.drawn (2 ^ 64) s.words r.turns.words_are) in
        let h = at_home r.served r.drawn (passes key) s.words r.log r.end s.homes s.views r.turns at now r.placed in
        let c = h.0 in let w = serving entries ended v c in (
          w,
          takes 0 (Some c),
          h.1,
          record {
            served = r.served;
            drawn = r.drawn;
            log = r.log;
            end = r.end;
            turns = serve_turns c r.served r.drawn (passes key) s.words s.views r.turns at now;
            placed = inr (id, w, set_here s.views id w (at_below s.views id v at), refl, h.3, h.4);
            knowing = serve_knowing c r.served r.drawn s.words r.log r.end s.views r.turns r.knowing r.tally at now h.2 h.3 h.4;
            tally = serve_tally c r.served r.drawn s.words r.log r.end s.views r.turns r.knowing r.tally at now h.2 h.3 h.4;
          },
          λ t' has_it. (
            (λ _. (c, refl, learns c r.served r.drawn s.words r.log r.end s.views r.turns r.knowing r.tally at now h.2 h.3 h.4)),
            (λ no. absurd (no (ap (λ (k : ℕ). k % 2 ^ 64) (some_same t' t (sym has_it ∙ mine)) ∙ hit))),
          ),
        ))
        (λ miss. (
          v,
          keeps,
          tt,
          subst (λ (ws : List ℕ). Ruled entries ended Same passes key record { words = ws; homes = s.homes; views = set s.views id v }) (sym (same_words r.served r.drawn (2 ^ 64) s.words r.turns.words_are) ∙ refl)
              (subst (λ (vs : List (View K F R)). Ruled entries ended Same passes key record { words = r.served % 2 ^ 64 ∷ r.drawn % 2 ^ 64 ∷ []; homes = s.homes; views = vs }) (sym (set_again s.views id v at)) (subst (λ (ws : List ℕ). Ruled entries ended Same passes key record { words = ws; homes = s.homes; views = s.views }) r.turns.words_are r)),
          λ t' has_it. ((λ yes. absurd (miss (ap (λ (k : ℕ). k % 2 ^ 64) (some_same t t' (sym mine ∙ has_it)) ∙ yes))), (λ _. refl)),
        ))

module _ {K F R C : Type 0} (entries : C → List F) (ended : C → Option (Ending R)) (Same : K → C → Type 0) (passes : K → ℕ) (key : K) where
  pub watches_at : (id t slots : ℕ) (m m' : Me (Option C) (View K F R)) → m' ≡ m → m.0.served ≡ false → m.1 ≡ [] → m.0.ticket ≡ Some t
      → Allows (Ruled entries ended Same passes key) slots id m' 0 (λ n. n) (Watched entries ended Same passes (step slots 0 0 0 core.none) m')
  watches_at id t slots m m' same calm empty mine =
      let P : Me (Option C) (View K F R) → Type 0 = λ x. Allows (Ruled entries ended Same passes key) slots id x 0 (λ n. n) (Watched entries ended Same passes (step slots 0 0 0 core.none) x) in
      subst P (sym same) (subst P (ap (λ (l : List (ℕ × Option C)). (m.0, l)) (sym empty)) (watches id m.0 calm t mine entries ended Same passes key slots))

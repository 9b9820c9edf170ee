-- Passing the turn on keeps the rule.
use Rattle.std.proofs.Common.{◌≡◌, ℕ, ◌+◌, ◌%◌, ◌^◌, ◌≤◌, ◌<◌, inl, ⊎_elim, List, [], ◌∷◌, Bool, true, false, Option, Some, None, set, get_or, length, drop, refl, sym, ◌∙◌, ap, arith, subst}
use Rattle.std.specs.Bool.{if◌then◌else◌}
use mathlib.Core.Option as core
use mathlib.Core.Logic.{dite}
use native.Mathlib.Decide.{ℕ_discrete}
use lib.ListN.{get_elem?}
use Rattle.atomic_table.specs.Table.{Me, Step, Allows, step, gives}
use Rattle.atomic_table.proofs.Lists.{at_set, set_here}
use Rattle.opt_core.specs.declared.event.Ending.{Ending}
use Rattle.opt_gate.specs.declared.view.View.{View}
use Rattle.opt_gate.specs.Lists.{times, once_below, StartsWith}
use Rattle.opt_gate.specs.inside.Totals.{placed_from}
use Rattle.opt_gate.specs.inside.Rule.{has, has_ticket, At, Turns, Knows, Tally, Placed, Ruled}
use Rattle.opt_gate.specs.inside.Plays.{passed, Passed, Shows}
use Rattle.opt_gate.specs.inside.Follow.{MayFollow}
use Rattle.opt_gate.proofs.Sums.{total_set, total_same}
use Rattle.opt_gate.proofs.Tickets.{passed_words}
use Rattle.opt_gate.proofs.Prefixes.{starts_self, starts_trans, at_below}
use Rattle.opt_gate.proofs.Owns.{owns_more, counts_more, times_append}
use Rattle.opt_gate.proofs.Draws.{no_ending}
use Rattle.opt_gate.proofs.Shows.{told}

pub not_true : (b : Bool) → (b ≡ true → ⊥) → b ≡ false
not_true true n = absurd (n refl)
not_true false n = refl

pub off_on : true ≡ false → ⊥
off_on e = cc

pub not_none : (t : ℕ) → ◌≡◌ {A = Option ℕ} None (Some t) → ⊥
not_none t e = cc

module _ {C : Type 0} where
  no_slots : List (ℕ × Option C)
  no_slots = []

  core_in : C → List (ℕ × Option C) → C
  core_in d [] = d
  core_in d ((k, None) ∷ xs) = d
  core_in d ((k, Some x) ∷ xs) = x

  pub same_core : (c d : C) → ◌≡◌ {A = List (ℕ × Option C)} ((0, Some c) ∷ []) ((0, Some d) ∷ []) → c ≡ d
  unfolding core_in
  same_core c d e = ap (core_in c) e

module _ {K F R C : Type 0} (entries : C → List F) (ended : C → Option (Ending R)) (Same : K → C → Type 0) (passes : K → ℕ) (key : K) where
  module _ (id : ℕ) (v : View K F R) (on : v.served ≡ true) (stops : ℕ) (c : C) (may : MayFollow entries ended Same stops v c) where
    w : View K F R
    w = passed entries ended stops v c

    module _ (served drawn n : ℕ) (ws : List ℕ) (views : List (View K F R)) (turns : Turns served drawn n ws views) (at : At views id v) where
      only : (i : ℕ) (u : View K F R) → At views i u → u.ticket ≡ Some served → i ≡ id
      only i u e is = turns.apart i id served u v e at is (turns.is_served id v at on)

      pass_turns : Turns (served + 1) drawn n (set ws 0 ((get_or ws 0 0 + 1) % 2 ^ 64)) (set views id w)
      unfolding w
      pass_turns =
          let had : has_ticket v ≡ 1 = ap has (turns.is_served id v at on) in
          let one = total_set has_ticket views id v w at in let queue = turns.queue in record {
            words_are = passed_words served drawn (2 ^ 64) ws turns.words_are;
            few = turns.few;
            rooms = total_same (λ (u : View K F R). u.room) views id v w at refl ∙ turns.rooms;
            queue = omega arith;
            roomy = λ i u e. ⊎_elim (λ s. subst (λ (x : View K F R). has_ticket x ≤ x.room) s.1 (omega arith)) (λ s. turns.roomy i u s.1) (at_set views id i w u e);
            in_turn = λ i k u e is. ⊎_elim (λ s. absurd (not_none k (ap (λ (x : View K F R). x.ticket) s.1 ∙ is)))
                (λ s. let old = turns.in_turn i k u s.1 is in dite (ℕ_discrete k served) (λ q. absurd (s.0 (only i u s.1 (is ∙ ap Some q)))) (λ q. (omega arith, old.1))) (at_set views id i w u e);
            apart = λ i j k u x ei ej iu ix. ⊎_elim (λ s. absurd (not_none k (ap (λ (y : View K F R). y.ticket) s.1 ∙ iu)))
                (λ s. ⊎_elim (λ z. absurd (not_none k (ap (λ (y : View K F R). y.ticket) z.1 ∙ ix))) (λ z. turns.apart i j k u x s.1 z.1 iu ix) (at_set views id j w x ej)) (at_set views id i w u ei);
            is_served = λ i u e lit. ⊎_elim (λ s. absurd (off_on (sym lit ∙ ap (λ (x : View K F R). x.served) (sym s.1))))
                (λ s. absurd (s.0 (only i u s.1 (turns.is_served i u s.1 lit)))) (at_set views id i w u e);
          }

      pass_placed : (homes : List (core.Option (Option C))) → 0 < length homes → Same key c
          → Placed entries ended Same passes key (entries c) (ended c) (set homes 0 (core.some (Some c))) (set views id w)
      unfolding w
      pass_placed homes some_home same = inl (
        c,
        set_here homes 0 (core.some (Some c)) some_home,
        same,
        refl,
        refl,
        λ i u e. ⊎_elim (λ s. ap (λ (x : View K F R). x.served) (sym s.1)) (λ s. not_true u.served (λ lit. s.0 (only i u s.1 (turns.is_served i u s.1 lit)))) (at_set views id i w u e),
      )

      -- the served view knows all
      knew_all : (log : List F) (end : Option (Ending R)) (homes : List (core.Option (Option C))) → Placed entries ended Same passes key log end homes views → (v.knows ≡ log) × (v.ending ≡ end)
      knew_all log end homes p = ⊎_elim (λ h. absurd (off_on (sym on ∙ h.5 id v at)))
          (λ h. let here = only h.0 h.1 h.2 (turns.is_served h.0 h.1 h.2 h.3) in
          let its : h.1 ≡ v = core.some-injective h.1 v (sym h.2 ∙ (ap (λ (k : ℕ). get_elem? views k) here ∙ at)) in
          (ap (λ (x : View K F R). x.knows) (sym its) ∙ h.4, ap (λ (x : View K F R). x.ending) (sym its) ∙ h.5)) p

      some_room : 0 < v.room
      some_room = let had : has_ticket v ≡ 1 = ap has (turns.is_served id v at on) in let r = turns.roomy id v at in omega arith

    pass_knows : (log : List F) (end : Option (Ending R)) → Knows key log end v → 0 < v.room → Knows key (entries c) (ended c) w
    unfolding w
    pass_knows log end k some = record {
      keyed = k.keyed;
      known = starts_self (entries c) (entries c) refl;
      ended = λ x e. (e, refl);
      own = owns_more (entries c) v.knows v.own may.further k.own;
      idle = λ none. absurd (omega arith);
      other = (entries c, refl);
      other_ended = λ x e. absurd (no_ending x e);
    }

    still_knows : (log : List F) (end : Option (Ending R)) → v.knows ≡ log → v.ending ≡ end → (u : View K F R) → Knows key log end u → Knows key (entries c) (ended c) u
    still_knows log end el ee u k = record {
      keyed = k.keyed;
      known = starts_trans (entries c) log u.knows (subst (λ (l : List F). StartsWith (entries c) l) el may.further) k.known;
      ended = λ x e. let old = k.ended x e in let now = may.stands x (ee ∙ old.0) in (now.0, old.1 ∙ (sym el ∙ sym now.1));
      own = k.own;
      idle = k.idle;
      other = k.other;
      other_ended = k.other_ended;
    }

    pass_tally : (log : List F) (end : Option (Ending R)) (views : List (View K F R)) → At views id v → v.knows ≡ log → v.ending ≡ end → Tally log end views → Tally (entries c) (ended c) (set views id w)
    unfolding w
    pass_tally log end views at el ee t = record {
      once = λ p.
          let more = placed_from (length v.knows) (drop (length v.knows) (entries c)) in
          let sum = total_set (λ (x : View K F R). times p x.own) views id v w at in
          let mine = times_append p v.own more in
          let all = counts_more p (entries c) v.knows may.further in
          let before = t.once p in
          let long : once_below p (length v.knows) ≡ once_below p (length log) = ap (λ (l : List F). once_below p (length l)) el in
          omega arith;
      stopped = λ e. let sum = total_set (λ (x : View K F R). x.stops) views id v w at in
          ⊎_elim (λ old. let some = t.stopped (sym ee ∙ old) in omega arith) (λ more. omega arith) (may.stopped e);
    }

    module _ (served drawn : ℕ) (ws : List ℕ) (log : List F) (end : Option (Ending R)) (views : List (View K F R))
        (turns : Turns served drawn (passes key) ws views) (knowing : (i : ℕ) (u : View K F R) → At views i u → Knows key log end u) (tally : Tally log end views) (at : At views id v)
        (el : v.knows ≡ log) (ee : v.ending ≡ end) where
      room : 0 < v.room
      room = some_room served drawn (passes key) ws views turns at

      pass_knowing : (i : ℕ) (u : View K F R) → At (set views id w) i u → Knows key (entries c) (ended c) u
      unfolding w
      pass_knowing i u e = ⊎_elim (λ z. subst (λ (x : View K F R). Knows key (entries c) (ended c) x) z.1 (pass_knows log end (knowing id v at) room))
          (λ z. still_knows log end el ee u (knowing i u z.1)) (at_set views id i w u e)

      pass_shows : Shows passes (passed entries ended stops v c)
      unfolding w
      pass_shows = told passes key (served + 1) drawn (set ws 0 ((get_or ws 0 0 + 1) % 2 ^ 64)) (entries c) (ended c) (set views id w) (pass_turns served drawn (passes key) ws views turns at)
          pass_knowing (pass_tally log end views at el ee tally) id w (set_here views id w (at_below views id v at)) room

    pub passes_on : (slots : ℕ) → 0 < slots → Allows (Ruled entries ended Same passes key) slots id (v, (0, Some c) ∷ []) 0 (λ n. (n + 1) % 2 ^ 64) (Passed entries ended Same passes stops (step slots 0 1 0 core.none) (v, (0, Some c) ∷ []))
    unfolding w no_slots
    passes_on slots some_slot s r long at wide =
        let all = knew_all r.served r.drawn (passes key) s.words s.views r.turns at r.log r.end s.homes r.placed in
        let k = r.knowing id v at in (
          w,
          gives,
          tt,
          record {
            served = r.served + 1;
            drawn = r.drawn;
            log = entries c;
            end = ended c;
            turns = pass_turns r.served r.drawn (passes key) s.words s.views r.turns at;
            placed = pass_placed r.served r.drawn (passes key) s.words s.views r.turns at s.homes (omega arith) (may.same key (⊎_elim (λ e. e) (λ none. let some = some_room r.served r.drawn (passes key) s.words s.views r.turns at in absurd (omega arith)) k.keyed));
            knowing = pass_knowing r.served r.drawn s.words r.log r.end s.views r.turns r.knowing r.tally at all.0 all.1;
            tally = pass_tally r.log r.end s.views at all.0 all.1 r.tally;
          },
          λ c' is. subst (λ (x : C). (◌≡◌ {A = Me (Option C) (View K F R)} (w, no_slots) (passed entries ended stops v x, no_slots)) × Shows passes (passed entries ended stops v x)) (same_core c c' is)
              (refl, pass_shows r.served r.drawn s.words r.log r.end s.views r.turns r.knowing r.tally at all.0 all.1),
        )

    pub passes_on_at : (slots : ℕ) → 0 < slots → (m : Me (Option C) (View K F R)) → m ≡ (v, (0, Some c) ∷ []) → Allows (Ruled entries ended Same passes key) slots id m 0 (λ n. (n + 1) % 2 ^ 64) (Passed entries ended Same passes stops (step slots 0 1 0 core.none) m)
    passes_on_at slots some m e = let P : Me (Option C) (View K F R) → Type 0 = λ x. Allows (Ruled entries ended Same passes key) slots id x 0 (λ n. (n + 1) % 2 ^ 64) (Passed entries ended Same passes stops (step slots 0 1 0 core.none) x) in
        subst P (sym e) (passes_on slots some)

module _ {K F R C : Type 0} (entries : C → List F) (ended : C → Option (Ending R)) (Same : K → C → Type 0) (passes : K → ℕ) where
  -- what a passed turn shows, by whether it asked to stop
  pub shown_of : (b is_stop : Bool) (st : Step (Option C)) (m n : Me (Option C) (View K F R)) (v : View K F R) (c : C) (r : ℕ) → is_stop ≡ b → m ≡ (v, (0, Some c) ∷ []) → Passed entries ended Same passes (if b then 1 else 0) st m r n
      → Shows passes (passed entries ended (if is_stop then 1 else 0) v c)
  shown_of b is_stop st m n v c r is me told = subst (λ (s : Bool). Shows passes (passed entries ended (if s then 1 else 0) v c)) (sym is)
      (subst (λ (x : Me (Option C) (View K F R)). Shows passes (passed entries ended (if b then 1 else 0) x.0 c)) me (told c (ap (λ (x : Me (Option C) (View K F R)). x.1) me)).1)

-- Putting two passes together keeps the rule.
use Rattle.std.proofs.Common.{◌≡◌, ◌≢◌, ℕ, ◌+◌, ◌≤◌, ◌<◌, inl, inr, ⊎_elim, List, [], ◌++◌, Bool, true, false, cond, nat_le, Option, Some, None, set, length, refl, sym, ◌∙◌, ap, arith, subst}
use Rattle.std.proofs.lemmas.Bool.Decides.{nat_tests}
use mathlib.Core.Option as core
use Rattle.atomic_table.specs.Table.{Joins}
use Rattle.atomic_table.proofs.Lists.{at_set, set_else}
use Rattle.opt_core.specs.declared.event.Ending.{Ending}
use Rattle.opt_gate.specs.declared.view.View.{View}
use Rattle.opt_gate.specs.Lists.{times, StartsWith, by_length, longer, either_of}
use Rattle.opt_gate.specs.inside.Totals.{total, shorter}
use Rattle.opt_gate.specs.inside.Rule.{has_ticket, At, Turns, Knows, Placed, Ruled}
use Rattle.opt_gate.specs.inside.Plays.{joined, spent}
use Rattle.opt_gate.proofs.Sums.{total_set}
use Rattle.opt_gate.proofs.Draws.{not_served, none_has, no_ending}
use Rattle.opt_gate.proofs.Passes.{not_none, off_on}
use Rattle.opt_gate.proofs.Prefixes.{all_further, starts_self, begins, whole}
use Rattle.opt_gate.proofs.Owns.{times_append, all_append}

module _ {F R : Type 0} (log : List F) (end : Option (Ending R)) where
  abbrev IsKnown : List F → Option (Ending R) → Type 0
  IsKnown a x = StartsWith log a × ((z : Ending R) → x ≡ Some z → (end ≡ Some z) × (a ≡ log))

  -- what is known where a list and an ending are taken that know more, before others
  record Merged (a b : List F) (x y : Option (Ending R)) : Type 0 where
    known : StartsWith log a
    ended : (z : Ending R) → either_of x y ≡ Some z → (end ≡ Some z) × (a ≡ log)
    other : StartsWith a b
    other_ended : (z : Ending R) → y ≡ Some z → (either_of x y ≡ Some z) × (b ≡ a)

  all_of : (a b : List F) → StartsWith log a → b ≡ log → length b ≤ length a → a ≡ log
  all_of a b p e le = whole log a p (let n = ap (λ (l : List F). length l) e in omega arith)

  first_ended : (a b : List F) (x y : Option (Ending R)) → IsKnown a x → IsKnown b y → length b ≤ length a → (z : Ending R) → either_of x y ≡ Some z → (end ≡ Some z) × (a ≡ log)
  first_ended a b (Some x) y p q le z e = p.1 z e
  first_ended a b None y p q le z e = let r = q.1 z e in (r.0, all_of a b p.0 r.1 le)

  other_first : (a : List F) (x y : Option (Ending R)) → IsKnown a x → (z : Ending R) → end ≡ Some z → y ≡ Some z → either_of x y ≡ Some z
  other_first a (Some x) y p z e f = sym (p.1 x refl).0 ∙ e
  other_first a None y p z e f = f

  merged : (a b : List F) (x y : Option (Ending R)) → IsKnown a x → IsKnown b y → length b ≤ length a → Merged a b x y
  merged a b x y p q le = record {
    known = p.0;
    ended = first_ended a b x y p q le;
    other = begins log a b p.0 q.0 le;
    other_ended = λ z e. let r = q.1 z e in (other_first a x y p z r.0 e, r.1 ∙ sym (all_of a b p.0 r.1 le));
  }

  merged_by : (a b : List F) (x y : Option (Ending R)) → IsKnown a x → IsKnown b y → (t : Bool) → (t ≡ true → length b ≤ length a) → (t ≡ false → length a ≤ length b)
      → Merged (cond t a b) (cond t b a) (cond t x y) (cond t y x)
  merged_by a b x y p q true le ge = merged a b x y p q (le refl)
  merged_by a b x y p q false le ge = merged b a y x q p (ge refl)

  is_le : (n k : ℕ) → nat_le n k ≡ true → n ≤ k
  is_le n k e = grind (arith, nat_tests)

  is_ge : (n k : ℕ) → nat_le n k ≡ false → k ≤ n
  is_ge n k e = grind (arith, nat_tests)

  merges : (a b : List F) (x y : Option (Ending R)) → IsKnown a x → IsKnown b y → Merged (longer a b) (shorter a b) (by_length a b x y) (by_length a b y x)
  merges a b x y p q = merged_by a b x y p q (nat_le (length b) (length a)) (is_le (length b) (length a)) (is_ge (length b) (length a))

module _ {A : Type 0} where
  -- a list that begins with the shorter of two, where it is the longer one, begins with both
  both_by : (a b : List A) (t : Bool) → StartsWith (cond t a b) (cond t b a) → StartsWith (cond t a b) a × StartsWith (cond t a b) b
  both_by a b true s = (starts_self a a refl, s)
  both_by a b false s = (s, starts_self b b refl)

  pub begins_with_both : (a b : List A) → StartsWith (longer a b) (shorter a b) → StartsWith (longer a b) a × StartsWith (longer a b) b
  begins_with_both a b s = both_by a b (nat_le (length b) (length a)) s

-- what the pass that knew an ending knows after a join
module _ {F R : Type 0} (a b : List F) (x y : Option (Ending R)) (z : Ending R) where
  abbrev Both : Bool → Type 0
  Both t = cond t y x ≡ Some z → (either_of (cond t x y) (cond t y x) ≡ Some z) × (cond t b a ≡ cond t a b)

  first_by : (t : Bool) → Both t → x ≡ Some z → (either_of (cond t x y) (cond t y x) ≡ Some z) × (cond t a b ≡ a)
  first_by true h e = (ap (λ (o : Option (Ending R)). either_of o y) e, refl)
  first_by false h e = let s = h e in (s.0, sym s.1)

  second_by : (t : Bool) → Both t → y ≡ Some z → (either_of (cond t x y) (cond t y x) ≡ Some z) × (cond t a b ≡ b)
  second_by true h e = let s = h e in (s.0, sym s.1)
  second_by false h e = (ap (λ (o : Option (Ending R)). either_of o x) e, refl)

module _ {K F R : Type 0} (v w : View K F R) (z : Ending R) where
  pub stays_joined : ((joined v w).other_ending ≡ Some z → ((joined v w).ending ≡ Some z) × ((joined v w).other ≡ (joined v w).knows)) → v.ending ≡ Some z → ((joined v w).ending ≡ Some z) × ((joined v w).knows ≡ v.knows)
  stays_joined h e = first_by v.knows w.knows v.ending w.ending z (nat_le (length w.knows) (length v.knows)) h e

  pub other_stays : ((joined v w).other_ending ≡ Some z → ((joined v w).ending ≡ Some z) × ((joined v w).other ≡ (joined v w).knows)) → w.ending ≡ Some z → ((joined v w).ending ≡ Some z) × ((joined v w).knows ≡ w.knows)
  other_stays h e = second_by v.knows w.knows v.ending w.ending z (nat_le (length w.knows) (length v.knows)) h e

module _ {K F R : Type 0} (id : ℕ) (v : View K F R) (idle : v.ticket ≡ None) (calm : v.served ≡ false)
    (other : ℕ) (w : View K F R) (idle' : w.ticket ≡ None) (calm' : w.served ≡ false) (apart : ¬ (other ≡ id)) (some_room : 0 < v.room) where
  both : View K F R
  both = joined v w

  after : List (View K F R) → List (View K F R)
  after views = set (set views id (joined v w)) other spent

  cases : (views : List (View K F R)) (i : ℕ) (u : View K F R) (P : Type 0) → At (set (set views id (joined v w)) other spent) i u
      → (joined v w ≡ u → P) → (spent ≡ u → P) → (i ≢ id → i ≢ other → At views i u → P) → P
  cases views i u P e new lost old = ⊎_elim (λ s. lost s.1) (λ s. ⊎_elim (λ z. new z.1) (λ z. old z.0 s.0 z.1) (at_set views id i (joined v w) u s.1)) (at_set (set views id (joined v w)) other i spent u e)

  module _ (f : View K F R → ℕ) (sum : f (joined v w) ≡ f v + f w) (nothing : f spent ≡ 0) where
    pub total_join : (views : List (View K F R)) → At views id v → At (set views id (joined v w)) other w → total f (set (set views id (joined v w)) other spent) ≡ total f views
    total_join views at at' = let a = total_set f views id v (joined v w) at in let b = total_set f (set views id (joined v w)) other w spent at' in omega arith

  join_turns : (served drawn n : ℕ) (ws : List ℕ) (views : List (View K F R)) → Turns served drawn n ws views → At views id v → At (set views id (joined v w)) other w
      → Turns served drawn n ws (set (set views id (joined v w)) other spent)
  join_turns served drawn n ws views t at at' =
      let a = none_has v.ticket idle in let b = none_has w.ticket idle' in
      let queue = t.queue in let same = total_join has_ticket (sym (ap (λ (x : ℕ). 0) a) ∙ (let z : 0 ≡ has_ticket v + has_ticket w = omega arith in z)) refl views at at' in record {
        words_are = t.words_are;
        few = t.few;
        rooms = total_join (λ (u : View K F R). u.room) refl refl views at at' ∙ t.rooms;
        queue = omega arith;
        roomy = λ i u e. cases views i u (has_ticket u ≤ u.room) e (λ s. subst (λ (x : View K F R). has_ticket x ≤ x.room) s (omega arith)) (λ s. subst (λ (x : View K F R). has_ticket x ≤ x.room) s (omega arith)) (λ o p s. t.roomy i u s);
        in_turn = λ i k u e is. cases views i u ((served ≤ k) × (k < drawn)) e (λ s. absurd (not_none k (ap (λ (x : View K F R). x.ticket) s ∙ is))) (λ s. absurd (not_none k (ap (λ (x : View K F R). x.ticket) s ∙ is))) (λ o p s. t.in_turn i k u s is);
        apart = λ i j k u x ei ej iu ix. cases views i u (i ≡ j) ei (λ s. absurd (not_none k (ap (λ (y : View K F R). y.ticket) s ∙ iu))) (λ s. absurd (not_none k (ap (λ (y : View K F R). y.ticket) s ∙ iu)))
            (λ o p s. cases views j x (i ≡ j) ej (λ z. absurd (not_none k (ap (λ (y : View K F R). y.ticket) z ∙ ix))) (λ z. absurd (not_none k (ap (λ (y : View K F R). y.ticket) z ∙ ix))) (λ q r z. t.apart i j k u x s z iu ix));
        is_served = λ i u e on. cases views i u (u.ticket ≡ Some served) e (λ s. absurd (off_on (sym on ∙ ap (λ (x : View K F R). x.served) (sym s)))) (λ s. absurd (off_on (sym on ∙ ap (λ (x : View K F R). x.served) (sym s)))) (λ o p s. t.is_served i u s on);
      }

  module _ {C : Type 0} (entries : C → List F) (ended : C → Option (Ending R)) (Same : K → C → Type 0) (passes : K → ℕ) (key : K) where
    at_before : (views : List (View K F R)) → At (set views id (joined v w)) other w → At views other w
    at_before views e = sym (set_else views id other (joined v w) apart) ∙ e

    join_placed : (log : List F) (end : Option (Ending R)) (homes : List (core.Option (Option C))) (views : List (View K F R)) → At views id v → At (set views id (joined v w)) other w
        → Placed entries ended Same passes key log end homes views → Placed entries ended Same passes key log end homes (set (set views id (joined v w)) other spent)
    join_placed log end homes views at at' p = ⊎_elim
        (λ h. inl (h.0, h.1, h.2, h.3, h.4, λ i u e. cases views i u (u.served ≡ false) e (λ s. ap (λ (x : View K F R). x.served) (sym s)) (λ s. ap (λ (x : View K F R). x.served) (sym s)) (λ o q s. h.5 i u s)))
        (λ h. inr (
          h.0,
          h.1,
          set_else (set views id (joined v w)) other h.0 spent (not_served views h.0 other h.1 w h.2 (at_before views at') h.3 calm')
              ∙ (set_else views id h.0 (joined v w) (not_served views h.0 id h.1 v h.2 at h.3 calm) ∙ h.2),
          h.3,
          h.4,
          h.5,
        )) p

    join_knows : (log : List F) (end : Option (Ending R)) → Knows key log end v → Knows key log end w → Knows key log end (joined v w)
    join_knows log end a b =
        let l = merges log end v.knows w.knows v.ending w.ending (a.known, a.ended) (b.known, b.ended) in
        let s = begins_with_both v.knows w.knows l.other in record {
          keyed = ⊎_elim (λ e. inl e) (λ e. absurd (omega arith)) a.keyed;
          known = l.known;
          ended = l.ended;
          own = all_append (longer v.knows w.knows) v.own w.own (all_further (longer v.knows w.knows) v.knows v.own s.0 a.own) (all_further (longer v.knows w.knows) w.knows w.own s.1 b.own);
          idle = λ none. let p = a.idle (omega arith) in let q = b.idle (omega arith) in (ap (λ (x : List (ℕ × F)). x ++ w.own) p.0 ∙ q.0, let m = p.1 in let n = q.1 in omega arith);
          other = l.other;
          other_ended = l.other_ended;
        }

    spent_knows : (log : List F) (end : Option (Ending R)) → Knows key log end w → Knows key log end spent
    spent_knows log end b = record { keyed = inr refl; known = (log, refl); ended = λ x e. absurd (no_ending x e); own = tt; idle = λ none. (refl, refl); other = ([], refl); other_ended = λ x e. absurd (no_ending x e) }

    pub joins : Joins (Ruled entries ended Same passes key) id v other w (joined v w) spent
    joins s r at ne at' = record {
      served = r.served;
      drawn = r.drawn;
      log = r.log;
      end = r.end;
      turns = join_turns r.served r.drawn (passes key) s.words s.views r.turns at at';
      placed = join_placed r.log r.end s.homes s.views at at' r.placed;
      knowing = λ i u e. cases s.views i u (Knows key r.log r.end u) e
          (λ z. subst (λ (x : View K F R). Knows key r.log r.end x) z (join_knows r.log r.end (r.knowing id v at) (r.knowing other w (at_before s.views at'))))
          (λ z. subst (λ (x : View K F R). Knows key r.log r.end x) z (spent_knows r.log r.end (r.knowing other w (at_before s.views at'))))
          (λ o p z. r.knowing i u z);
      tally = record {
        once = λ p. total_join (λ (x : View K F R). times p x.own) (times_append p v.own w.own) refl s.views at at' ∙ r.tally.once p;
        stopped = λ e. rw (total_join (λ (x : View K F R). x.stops) refl refl s.views at at') (r.tally.stopped e);
      };
    }

module _ {K F R C : Type 0} (entries : C → List F) (ended : C → Option (Ending R)) (Same : K → C → Type 0) (passes : K → ℕ) (key : K) where
  pub joins_at : (id other : ℕ) (v w : View K F R) → v.ticket ≡ None → v.served ≡ false → w.ticket ≡ None → w.served ≡ false → 0 < v.room
      → Joins (Ruled entries ended Same passes key) id v other w (joined v w) spent
  joins_at id other v w idle calm idle' calm' some s r at ne at' = joins id v idle calm other w idle' calm' ne some entries ended Same passes key s r at ne at'

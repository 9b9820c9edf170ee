-- What an event makes of a core may follow it in the slot.
use Rattle.std.proofs.Common.{◌≡◌, ℕ, ◌<◌, ◌⊎◌, inl, inr, List, [], ◌∷◌, Option, Some, None, refl, sym, ◌∙◌, arith, subst}
use Rattle.opt_system.specs.Meaning.{Meaning}
use Rattle.opt_core.specs.declared.event.Ending.{Ending}
use Rattle.opt_core.specs.declared.event.Ending.TheVariants as ending
use Rattle.opt_core.specs.declared.event.Rest.{Rest}
use Rattle.opt_core.specs.declared.event.Event.{Event}
use Rattle.opt_core.specs.declared.event.Event.TheVariants as event
use Rattle.opt_core.specs.declared.event.Reply.{Reply}
use Rattle.opt_core.specs.declared.event.Reply.TheVariants as reply
use Rattle.opt_core.specs.Core.{Core}
use Rattle.opt_core.specs.Steps.{AnswersWith, AnswersOffer, AnswersOfferBy, AnswersOffers, AllCommitted, reply_of, with_ending, with_quiet, with_entry}
use Rattle.opt_core.proofs.Batches.{not_stopped, chained}
use Rattle.opt_gate.specs.Lists.{StartsWith}
use Rattle.opt_gate.specs.Turn.{stops_of}
use Rattle.opt_gate.proofs.Prefixes.{starts_self, starts_trans}

module _ {Reason : Type 0} where
  none_set : {x : Ending Reason} (o : Option (Ending Reason)) → o ≡ None → o ≡ Some x → ⊥
  none_set o n s = cc

module _ {System State Found Goal Reason : Type 0} (m : Meaning State Found Goal Reason) where
  pub record Follows (stops : ℕ) (c d : Core System State Found Goal Reason) : Type 0 where
    pub system : d.system ≡ c.system
    pub base : d.base ≡ c.base
    pub goal : d.goal ≡ c.goal
    pub given : d.given ≡ c.given
    pub further : StartsWith d.entries c.entries
    pub stands : (x : Ending Reason) → c.ending ≡ Some x → (d.ending ≡ Some x) × (d.entries ≡ c.entries)
    pub stopped : d.ending ≡ Some ending.Stopped → (c.ending ≡ Some ending.Stopped) ⊎ (0 < stops)

  follows_self : (stops : ℕ) (c d : Core System State Found Goal Reason) → d ≡ c → Follows stops c d
  follows_self stops c d e = subst (λ (x : Core System State Found Goal Reason). Follows stops c x) (sym e)
      record { system = refl; base = refl; goal = refl; given = refl; further = starts_self c.entries c.entries refl; stands = λ x is. (is, refl); stopped = λ is. inl is }

  follows_ending : (stops : ℕ) (c : Core System State Found Goal Reason) (x : Ending Reason) → c.ending ≡ None → (x ≡ ending.Stopped → 0 < stops) → Follows stops c (with_ending c x)
  follows_ending stops c x none only = record { system = refl; base = refl; goal = refl; given = refl; further = starts_self c.entries c.entries refl; stands = λ y is. absurd (none_set c.ending none is); stopped = λ is. inr (only (some_is is)) }
    where
      some_is : {a b : Ending Reason} → Some a ≡ Some b → a ≡ b
      some_is e = cc

  follows_quiet : (stops : ℕ) (c : Core System State Found Goal Reason) (j : ℕ) → Follows stops c (with_quiet c j)
  follows_quiet stops c j = record { system = refl; base = refl; goal = refl; given = refl; further = starts_self c.entries c.entries refl; stands = λ x is. (is, refl); stopped = λ is. inl is }

  follows_commit : (stops : ℕ) (c : Core System State Found Goal Reason) (f : Found) → c.ending ≡ None → Follows stops c (with_entry m c f)
  follows_commit stops c f none = record { system = refl; base = refl; goal = refl; given = refl; further = (f ∷ [], refl); stands = λ y is. absurd (none_set c.ending none is); stopped = λ is. absurd (not_stopped (m.mode c.goal) c.left is) }

  follows_offer : (c d : Core System State Found Goal Reason) (told : ℕ) (f : Found) (r : Reply Found Reason) → c.ending ≡ None → AnswersOffer m c told f r d → Follows 0 c d
  follows_offer c d told f (reply.Committed p) none h = subst (λ (x : Core System State Found Goal Reason). Follows 0 c x) (sym h.3) (follows_commit 0 c f none)
  follows_offer c d told f (reply.Stale n) none h = follows_self 0 c d h.0.2
  follows_offer c d told f (reply.Closed x) none h = subst (λ (x : Core System State Found Goal Reason). Follows 0 c x) (sym h.3) (follows_ending 0 c ending.Bound none (λ e. cc))
  follows_offer c d told f reply.NoMemory none h = follows_self 0 c d h
  follows_offer c d told f (reply.News es task) none h = absurd h
  follows_offer c d told f reply.Noted none h = absurd h
  follows_offer c d told f (reply.Batched p n r) none h = absurd h

  follows_by : (o : Option (Ending Reason)) (c d : Core System State Found Goal Reason) (told : ℕ) (f : Found) (r : Reply Found Reason) → c.ending ≡ o → AnswersOfferBy m o c told f r d → Follows 0 c d
  follows_by None c d told f r is h = follows_offer c d told f r is h
  follows_by (Some x) c d told f r is h = follows_self 0 c d h.1

  -- after the offers that were committed
  follows_chain : (c d : Core System State Found Goal Reason) (told : ℕ) (fs : List Found) → c.ending ≡ None → AllCommitted m c told fs d → Follows 0 c d
  follows_chain c d told fs none all = let t = chained m c d told fs all in record {
    system = t.start.system;
    base = t.start.base;
    goal = t.start.goal;
    given = t.start.given;
    further = (fs, t.adds);
    stands = λ x is. absurd (none_set c.ending none is);
    stopped = λ is. inl (t.stopped is);
  }

  follows_on : (c b d : Core System State Found Goal Reason) → Follows 0 c b → Follows 0 b d → Follows 0 c d
  follows_on c b d s t = record {
    system = t.system ∙ s.system;
    base = t.base ∙ s.base;
    goal = t.goal ∙ s.goal;
    given = t.given ∙ s.given;
    further = starts_trans d.entries b.entries c.entries t.further s.further;
    stands = λ x is. let old = s.stands x is in let now = t.stands x old.0 in (now.0, now.1 ∙ old.1);
    stopped = λ is. elim (t.stopped is) [ inl e ↦ s.stopped e | inr n ↦ inr n ];
  }

  follows_offers : (c d : Core System State Found Goal Reason) (told n : ℕ) (fs : List Found) (r : Option (Rest Reason)) → c.ending ≡ None → AnswersOffers m c told fs n r d → Follows 0 c d
  follows_offers c d told n fs None none h = follows_chain c d told fs none h.1
  follows_offers c d told n fs (Some r) none h = follows_on c h.3 d (follows_chain c h.3 told h.0 none h.6) (follows_by h.3.ending h.3 d told h.1 (reply_of r) refl h.7)

  follows_open : (c d : Core System State Found Goal Reason) (e : Event Found) (r : Reply Found Reason) → c.ending ≡ None → AnswersWith m None c e r d → Follows (stops_of e) c d
  follows_open c d (event.Look told from) (reply.News es task) none h = follows_self 0 c d h.2
  follows_open c d (event.Look told from) reply.NoMemory none h = follows_self 0 c d h
  follows_open c d (event.Look told from) (reply.Committed p) none h = absurd h
  follows_open c d (event.Look told from) (reply.Stale p) none h = absurd h
  follows_open c d (event.Look told from) reply.Noted none h = absurd h
  follows_open c d (event.Look told from) (reply.Closed x) none h = absurd h
  follows_open c d (event.Look told from) (reply.Batched p n r) none h = absurd h
  follows_open c d (event.Offer told f) r none h = follows_offer c d told f r none h
  follows_open c d (event.Batch told fs) (reply.Batched p n r) none h = follows_offers c d told n fs r none h.1
  follows_open c d (event.Batch told fs) (reply.News es task) none h = absurd h
  follows_open c d (event.Batch told fs) (reply.Committed p) none h = absurd h
  follows_open c d (event.Batch told fs) (reply.Stale n) none h = absurd h
  follows_open c d (event.Batch told fs) reply.Noted none h = absurd h
  follows_open c d (event.Batch told fs) (reply.Closed x) none h = absurd h
  follows_open c d (event.Batch told fs) reply.NoMemory none h = absurd h
  follows_open c d (event.Fault told f) (reply.Stale n) none h = follows_self 0 c d h.0.2
  follows_open c d (event.Fault told f) (reply.Closed x) none h = subst (λ (x : Core System State Found Goal Reason). Follows 0 c x) (sym h.3) (follows_ending 0 c (ending.Fault h.0) none (λ e. cc))
  follows_open c d (event.Fault told f) reply.NoMemory none h = follows_self 0 c d h
  follows_open c d (event.Fault told f) (reply.News es task) none h = absurd h
  follows_open c d (event.Fault told f) (reply.Committed p) none h = absurd h
  follows_open c d (event.Fault told f) reply.Noted none h = absurd h
  follows_open c d (event.Fault told f) (reply.Batched p n r) none h = absurd h
  follows_open c d (event.Quiet told j) reply.Noted none h = subst (λ (x : Core System State Found Goal Reason). Follows 0 c x) (sym h.1) (follows_quiet 0 c j)
  follows_open c d (event.Quiet told j) (reply.Stale n) none h = follows_self 0 c d h.2
  follows_open c d (event.Quiet told j) (reply.Closed x) none h = let q = follows_ending 0 (with_quiet c j) ending.Blocked none (λ e. cc) in subst (λ (x : Core System State Found Goal Reason). Follows 0 c x) (sym h.2)
      record { system = q.system; base = q.base; goal = q.goal; given = q.given; further = q.further; stands = q.stands; stopped = q.stopped }
  follows_open c d (event.Quiet told j) (reply.News es task) none h = absurd h
  follows_open c d (event.Quiet told j) (reply.Committed p) none h = absurd h
  follows_open c d (event.Quiet told j) reply.NoMemory none h = absurd h
  follows_open c d (event.Quiet told j) (reply.Batched p n r) none h = absurd h
  follows_open c d event.Stop (reply.Closed x) none h = subst (λ (x : Core System State Found Goal Reason). Follows 1 c x) (sym h.1) (follows_ending 1 c ending.Stopped none (λ e. omega arith))
  follows_open c d event.Stop (reply.News es task) none h = absurd h
  follows_open c d event.Stop (reply.Committed p) none h = absurd h
  follows_open c d event.Stop (reply.Stale n) none h = absurd h
  follows_open c d event.Stop reply.Noted none h = absurd h
  follows_open c d event.Stop reply.NoMemory none h = absurd h
  follows_open c d event.Stop (reply.Batched p n r) none h = absurd h

  pub follows : (c d : Core System State Found Goal Reason) (e : Event Found) (r : Reply Found Reason) (o : Option (Ending Reason)) → c.ending ≡ o → AnswersWith m o c e r d → Follows (stops_of e) c d
  follows c d e r (Some x) is h = follows_self (stops_of e) c d h.1
  follows c d e r None is h = follows_open c d e r is h

-- What one event does to a legal core.
use Rattle.std.proofs.Common.{◌≡◌, ◌≢◌, ℕ, ◌+◌, ◌<◌, ◌≤◌, ◌⊎◌, inl, inr, List, [], ◌∷◌, ◌++◌, true, Option, Some, None, length, set, take, drop, refl, sym, ◌∙◌, ap, subst, arith, append-nil, length-append}
use Rattle.std.proofs.lemmas.List.{take_all}
use mathlib.Core.Logic.{dite}
use native.Mathlib.Decide.{ℕ_discrete}
use Rattle.opt_system.specs.Meaning.{Meaning, applies, faulty, Barren, IsLawful}
use Rattle.opt_core.specs.declared.event.Ending.{Ending}
use Rattle.opt_core.specs.declared.event.Ending.TheVariants as ending
use Rattle.opt_core.specs.declared.event.Reply.{Reply}
use Rattle.opt_core.specs.declared.event.Reply.TheVariants as reply
use Rattle.opt_core.specs.declared.event.Rest.{Rest}
use Rattle.opt_core.specs.declared.event.Rest.TheVariants as rest
use Rattle.opt_core.specs.declared.event.Event.{Event}
use Rattle.opt_core.specs.declared.event.Event.TheVariants as event
use Rattle.opt_core.specs.Core.{Core, Legal, AllApply, reached, IsEnding, IsLegal, at_first}
use Rattle.opt_core.specs.Shares.{AllQuiet}
use Rattle.opt_core.specs.Steps.{MayCome, Answers, AnswersWith, AnswersRunning, AnswersLook, AnswersOffer, AnswersOfferBy, AnswersAnyOffer, AnswersBatch, AllCommitted, AnswersFault, AnswersQuiet, AnswersStop, reply_of, with_ending, with_quiet, with_entry}
use Rattle.opt_core.specs.Runs.{Says, SaysRest, SameStart, placed_from, commits_of, matches_of, at_end}
use Rattle.opt_core.proofs.Legal.{commits, quietens, ends, blocked}
use Rattle.opt_core.proofs.Batches.{Chained, chained, legal_chain, not_stale, front, behind}

module _ {Reason : Type 0} where
  bound_stopped : {x : Ending Reason} → x ≡ ending.Bound → x ≡ ending.Stopped → ⊥
  bound_stopped a b = cc

  blocked_stopped : {x : Ending Reason} → x ≡ ending.Blocked → x ≡ ending.Stopped → ⊥
  blocked_stopped a b = cc

  fault_stopped : {x : Ending Reason} {r : Reason} → x ≡ ending.Fault r → x ≡ ending.Stopped → ⊥
  fault_stopped a b = cc

module _ {Found : Type 0} where
  pub placed_matches : (place : ℕ) (fs : List Found) → matches_of (placed_from place fs) ≡ fs
  placed_matches place [] = refl
  placed_matches place (f ∷ fs) = ap (λ (gs : List Found). f ∷ gs) (placed_matches (place + 1) fs)

  offer_stop : {told : ℕ} {f : Found} → event.Offer told f ≡ event.Stop → ⊥
  offer_stop e = cc

module _ {Found Reason : Type 0} where
  closed_none : (e : Event Found) (x : Ending Reason) → matches_of (commits_of e (reply.Closed x)) ≡ []
  closed_none (event.Look told from) x = refl
  closed_none (event.Offer told f) x = refl
  closed_none (event.Batch told fs) x = refl
  closed_none (event.Fault told f) x = refl
  closed_none (event.Quiet told share) x = refl
  closed_none event.Stop x = refl

module _ {System State Found Goal Reason : Type 0} (m : Meaning State Found Goal Reason) where
  -- what one event does to a core
  pub record EventDoes (c : Core System State Found Goal Reason) (e : Event Found) (r : Reply Found Reason) (d : Core System State Found Goal Reason) : Type 0 where
    pub legal : Legal m d
    pub says : Says m c e r d
    pub start : SameStart c d
    pub adds : d.entries ≡ c.entries ++ matches_of (commits_of e r)

  same_start : (c : Core System State Found Goal Reason) → SameStart c c
  same_start c = record { system = refl; base = refl; goal = refl; given = refl }

  adds_none : (c : Core System State Found Goal Reason) → c.entries ≡ c.entries ++ []
  adds_none c = sym (append-nil c.entries)

  -- the ending of a legal core is true of all entries
  pub ending_says : (d : Core System State Found Goal Reason) (x : Ending Reason) → Legal m d → d.ending ≡ Some x → IsEnding m d.goal (at_end m d) d.entries d.quiet d.given d.left (Some x)
  ending_says d x l e = subst (λ (s : State). IsEnding m d.goal s d.entries d.quiet d.given d.left (Some x)) l.at_all
      (subst (λ (o : Option (Ending Reason)). IsEnding m d.goal d.state d.entries d.quiet d.given d.left o) e l.ended)

  -- a core that stays
  module _ (c : Core System State Found Goal Reason) (e : Event Found) (r : Reply Found Reason) where
    stays : {d : Core System State Found Goal Reason} → Legal m c → Says m c e r c → matches_of (commits_of e r) ≡ [] → d ≡ c → EventDoes c e r d
    stays l says none same = subst (λ (d : Core System State Found Goal Reason). EventDoes c e r d) (sym same)
        (record { legal = l; says = says; start = same_start c; adds = subst (λ (fs : List Found). c.entries ≡ c.entries ++ fs) (sym none) (adds_none c) })

  -- a core that ends, where b is it but for the quiet shares
  module _ (c b : Core System State Found Goal Reason) (e : Event Found) (x : Ending Reason) where
    closes_here : SameStart c b → b.entries ≡ c.entries → Legal m (with_ending b x) → (x ≡ ending.Stopped → (e ≡ event.Stop) ⊎ (c.ending ≡ Some ending.Stopped))
        → EventDoes c e (reply.Closed x) (with_ending b x)
    closes_here start same l stop = record {
      legal = l;
      says = (refl, ending_says (with_ending b x) x l refl, same, stop);
      start = record { system = start.system; base = start.base; goal = start.goal; given = start.given };
      adds = subst (λ (fs : List Found). b.entries ≡ c.entries ++ fs) (sym (closed_none e x)) (same ∙ adds_none c);
    }

    closes : {d : Core System State Found Goal Reason} {y : Ending Reason} → SameStart c b → b.entries ≡ c.entries → Legal m (with_ending b x)
        → (x ≡ ending.Stopped → (e ≡ event.Stop) ⊎ (c.ending ≡ Some ending.Stopped)) → y ≡ x → d ≡ with_ending b x → EventDoes c e (reply.Closed y) d
    closes {d} {y} start same l stop is after = subst (λ (z : Ending Reason). EventDoes c e (reply.Closed z) d) (sym is)
        (subst (λ (d : Core System State Found Goal Reason). EventDoes c e (reply.Closed x) d) (sym after) (closes_here start same l stop))

  -- a running core, by its ending
  abbrev Runs : Core System State Found Goal Reason → Type 0
  Runs c = IsLegal m c.goal c.base c.state c.entries c.quiet c.given c.left None

  runs : (c : Core System State Found Goal Reason) → Legal m c → c.ending ≡ None → Runs c
  runs c l open_ = subst (λ (o : Option (Ending Reason)). IsLegal m c.goal c.base c.state c.entries c.quiet c.given c.left o) open_ l

  -- at all entries, what was found at the first `told` of them where these are all
  told_all : (c : Core System State Found Goal Reason) (told : ℕ) → Legal m c → length c.entries ≤ told → at_first m c told ≡ c.state
  told_all c told l whole = ap (λ (xs : List Found). reached m c.base xs) (take_all told c.entries whole) ∙ sym l.at_all

  -- an ended core
  ended : (c d : Core System State Found Goal Reason) (e : Event Found) (r : Reply Found Reason) (x : Ending Reason) → Legal m c → c.ending ≡ Some x → r ≡ reply.Closed x → d ≡ c → EventDoes c e r d
  ended c d e r x l is closed same = subst (λ (r : Reply Found Reason). EventDoes c e r d) (sym closed)
      (stays c e (reply.Closed x) l (is, ending_says c x l is, refl, λ stop. inr (is ∙ ap (λ (y : Ending Reason). Some y) stop)) (closed_none e x) same)

  module _ (c : Core System State Found Goal Reason) (lawful : IsLawful m) (l : Legal m c) (open_ : c.ending ≡ None) where
    looked : (d : Core System State Found Goal Reason) (told from : ℕ) (r : Reply Found Reason) → AnswersLook m c told from r d → EventDoes c (event.Look told from) r d
    looked d told from (reply.News es task) g = stays c _ _ l (told, from, refl, g.0, open_, refl) refl g.2
    looked d told from reply.NoMemory g = stays c _ _ l (tt, refl) refl g
    looked d told from (reply.Committed p) g = absurd g
    looked d told from (reply.Stale n) g = absurd g
    looked d told from reply.Noted g = absurd g
    looked d told from (reply.Batched p n r) g = absurd g
    looked d told from (reply.Closed x) g = absurd g

    commits_here : (told p : ℕ) (f : Found) → p ≡ length c.entries → m.judged c.goal c.state f ≡ applies → 0 < c.left → EventDoes c (event.Offer told f) (reply.Committed p) (with_entry m c f)
    commits_here told p f place now some = record {
      legal = commits m c.goal c.base c.state c.entries c.quiet c.given c.left f lawful (runs c l open_) now some;
      says = (told, f, refl, place, subst (λ (s : State). m.judged c.goal s f ≡ applies) l.at_all now, refl);
      start = record { system = refl; base = refl; goal = refl; given = refl };
      adds = refl;
    }

    offered : (d : Core System State Found Goal Reason) (told : ℕ) (f : Found) (r : Reply Found Reason) → AnswersOffer m c told f r d → EventDoes c (event.Offer told f) r d
    offered d told f (reply.Committed p) g = subst (λ (d : Core System State Found Goal Reason). EventDoes c (event.Offer told f) (reply.Committed p) d) (sym g.3) (commits_here told p f g.0 g.1 g.2)
    offered d told f (reply.Stale n) g = stays c _ _ l (g.0.0, (g.0.1, subst (λ (s : State). m.judged c.goal s f ≢ applies) l.at_all g.1), refl) refl g.0.2
    offered d told f (reply.Closed x) g = closes c c _ ending.Bound (same_start c) refl (ends m c.goal c.base c.state c.entries c.quiet c.given c.left ending.Bound (runs c l open_) (g.1, inr (f, g.2)))
        (λ e. absurd (bound_stopped refl e)) g.0 g.3
    offered d told f reply.NoMemory g = stays c _ _ l (tt, refl) refl g
    offered d told f (reply.News es task) g = absurd g
    offered d told f reply.Noted g = absurd g
    offered d told f (reply.Batched p n r) g = absurd g

  -- an offer to a core that may have ended
  offered_by : (o : Option (Ending Reason)) (c d : Core System State Found Goal Reason) (told : ℕ) (f : Found) (r : Reply Found Reason) → IsLawful m → Legal m c → c.ending ≡ o → AnswersOfferBy m o c told f r d → EventDoes c (event.Offer told f) r d
  offered_by None c d told f r lawful l is g = offered c lawful l is d told f r g
  offered_by (Some x) c d told f r lawful l is g = ended c d (event.Offer told f) r x l is g.0 g.1

  module _ (c : Core System State Found Goal Reason) (lawful : IsLawful m) (l : Legal m c) (open_ : c.ending ≡ None) where
    -- so many matches of a batch are new entries
    batch_does : (d : Core System State Found Goal Reason) (told p n : ℕ) (fs gs : List Found) (r : Option (Rest Reason)) → Legal m d → SameStart c d → p ≡ length c.entries → take n fs ≡ gs → AllApply m c.goal c.state gs
        → d.entries ≡ c.entries ++ gs → SaysRest m c told fs n r d → EventDoes c (event.Batch told fs) (reply.Batched p n r) d
    batch_does d told p n fs gs r legal start place is apply adds says = record {
      legal = legal;
      says = (told, fs, refl, place, subst (λ (s : State). AllApply m c.goal s (take n fs)) l.at_all (subst (λ (hs : List Found). AllApply m c.goal c.state hs) (sym is) apply), adds ∙ ap (λ (hs : List Found). c.entries ++ hs) (sym is), says);
      start = start;
      adds = adds ∙ ap (λ (hs : List Found). c.entries ++ hs) (sym is ∙ sym (placed_matches p (take n fs)));
    }

    not_none : {x : Ending Reason} (o : Option (Ending Reason)) → o ≡ None → o ≡ Some x → ⊥
    not_none o a b = cc

    -- the first match that was not committed
    module _ (d b : Core System State Found Goal Reason) (told n : ℕ) (fs before after : List Found) (f : Found) (may : MayCome m c (event.Batch told fs)) (is : fs ≡ before ++ f ∷ after) (many : n ≡ length before)
        (led : AllCommitted m c told before b) where
      next : drop n fs ≡ f ∷ after
      next = ap (drop n) is ∙ behind n before (f ∷ after) many

      fewer : n < length fs
      fewer = let long = ap length is in omega (arith, length-append before (f ∷ after))

      ch : Chained m c before b
      ch = chained m c b told before led

      same_start_then : SameStart b d → SameStart c d
      same_start_then s = record { system = s.system ∙ ch.start.system; base = s.base ∙ ch.start.base; goal = s.goal ∙ ch.start.goal; given = s.given ∙ ch.start.given }

      again : d ≡ b → m.judged c.goal (at_end m d) f ≡ applies → m.judged b.goal (at_end m b) f ≡ applies
      again same now = ap (λ (g : Goal). m.judged g (at_end m b) f) ch.start.goal ∙ (ap (λ (y : Core System State Found Goal Reason). m.judged c.goal (at_end m y) f) (sym same) ∙ now)

      rest_says : (r : Rest Reason) → AnswersAnyOffer m b told f (reply_of r) d → EventDoes b (event.Offer told f) (reply_of r) d → SaysRest m c told fs n (Some r) d × (d.entries ≡ b.entries)
      rest_says (rest.Stale k) h one =
          let same = one.says.2 in
          let told_fewer : told < length c.entries = dite (ℕ_discrete told (length c.entries)) (λ all. absurd (not_stale m lawful c b d told k fs before after f l all may.3 is led h)) (λ other. let le = may.0 in omega arith) in (
            (
              told_fewer,
              one.says.0 ∙ ap (λ (y : Core System State Found Goal Reason). length y.entries) (sym same),
              (f, after, next, λ now. one.says.1.1 (again same now)),
            ),
            ap (λ (y : Core System State Found Goal Reason). y.entries) same,
          )
      rest_says (rest.Closed x) h one = ((fewer, one.says.0, one.says.1, λ stop. elim (one.says.3 stop) [ inl e ↦ offer_stop e | inr e ↦ not_none c.ending open_ (ch.stopped e) ]), one.says.2)
      rest_says rest.NoMemory h one = (fewer, ap (λ (y : Core System State Found Goal Reason). y.entries) one.says.1)

    batched : (d : Core System State Found Goal Reason) (told : ℕ) (fs : List Found) (r : Reply Found Reason) → MayCome m c (event.Batch told fs) → AnswersBatch m c told fs r d → EventDoes c (event.Batch told fs) r d
    batched d told fs (reply.Batched p n None) may g =
        let all = chained m c d told fs g.1.1 in
        let many = g.1.0 in
        batch_does d told p n fs fs None (legal_chain m lawful c d told fs l g.1.1) all.start g.0 (take_all n fs (omega arith)) all.applied all.adds many
    batched d told fs (reply.Batched p n (Some r)) may g =
        let before = g.1.0 in
        let f = g.1.1 in
        let after = g.1.2 in
        let b = g.1.3 in
        let is = g.1.4 in
        let many = g.1.5 in
        let led = g.1.6 in
        let h = g.1.7 in
        let all = ch d b told n fs before after f may is many led in
        let one = offered_by b.ending b d told f (reply_of r) lawful (legal_chain m lawful c b told before l led) refl h in
        let says = rest_says d b told n fs before after f may is many led r h one in
        batch_does d told p n fs before (Some r) one.legal (same_start_then d b told n fs before after f may is many led one.start) g.0 (ap (take n) is ∙ front n before (f ∷ after) many) all.applied (says.1 ∙ all.adds) says.0
    batched d told fs (reply.Committed p) may g = absurd g
    batched d told fs (reply.Stale n) may g = absurd g
    batched d told fs (reply.Closed x) may g = absurd g
    batched d told fs reply.NoMemory may g = absurd g
    batched d told fs (reply.News es task) may g = absurd g
    batched d told fs reply.Noted may g = absurd g

    faulted : (d : Core System State Found Goal Reason) (told : ℕ) (f : Found) (r : Reply Found Reason) → AnswersFault m c told f r d → EventDoes c (event.Fault told f) r d
    faulted d told f (reply.Stale n) g = stays c _ _ l (g.0.0, (g.0.1, subst (λ (s : State). (r : Reason) → m.judged c.goal s f ≢ faulty r) l.at_all g.1), refl) refl g.0.2
    faulted d told f (reply.Closed x) g = closes c c _ (ending.Fault g.0) (same_start c) refl (ends m c.goal c.base c.state c.entries c.quiet c.given c.left (ending.Fault g.0) (runs c l open_) (f, g.2))
        (λ e. absurd (fault_stopped refl e)) g.1 g.3
    faulted d told f reply.NoMemory g = stays c _ _ l (tt, refl) refl g
    faulted d told f (reply.Committed p) g = absurd g
    faulted d told f (reply.News es task) g = absurd g
    faulted d told f reply.Noted g = absurd g
    faulted d told f (reply.Batched p n r) g = absurd g

    noted_here : (told share : ℕ) → told ≡ length c.entries → Barren m c.goal share c.state → (AllQuiet (set c.quiet share true) → ⊥) → EventDoes c (event.Quiet told share) reply.Noted (with_quiet c share)
    noted_here told share all barren loud = record {
      legal = subst (λ (o : Option (Ending Reason)). IsLegal m c.goal c.base c.state c.entries (set c.quiet share true) c.given c.left o) (sym open_)
          (quietens m c.goal c.base c.state c.entries c.quiet c.given c.left share (runs c l open_) barren loud);
      says = (told, share, refl, all, subst (λ (s : State). Barren m c.goal share s) l.at_all barren, open_, refl);
      start = record { system = refl; base = refl; goal = refl; given = refl };
      adds = adds_none c;
    }

    quieted : (d : Core System State Found Goal Reason) (told share : ℕ) (r : Reply Found Reason) → Barren m c.goal share (at_first m c told) → AnswersQuiet m c told share r d → EventDoes c (event.Quiet told share) r d
    quieted d told share reply.Noted barren g = subst (λ (d : Core System State Found Goal Reason). EventDoes c (event.Quiet told share) reply.Noted d) (sym g.1)
        (noted_here told share g.0 (subst (λ (s : State). Barren m c.goal share s) (told_all c told l (let e = g.0 in omega arith)) barren)
        (subst (λ (d : Core System State Found Goal Reason). AllQuiet d.quiet → ⊥) g.1 g.2))
    quieted d told share (reply.Stale n) barren g = stays c _ _ l (g.0, g.1, refl) refl g.2
    quieted d told share (reply.Closed x) barren g = closes c (with_quiet c share) _ ending.Blocked (record { system = refl; base = refl; goal = refl; given = refl }) refl
        (blocked m c.goal c.base c.state c.entries c.quiet c.given c.left share lawful (runs c l open_) (subst (λ (s : State). Barren m c.goal share s) (told_all c told l (let e = g.0 in omega arith)) barren)
        (subst (λ (d : Core System State Found Goal Reason). AllQuiet d.quiet) g.2 g.3))
        (λ e. absurd (blocked_stopped refl e)) g.1 g.2
    quieted d told share reply.NoMemory barren g = absurd g
    quieted d told share (reply.Batched p n r) barren g = absurd g
    quieted d told share (reply.Committed p) barren g = absurd g
    quieted d told share (reply.News es task) barren g = absurd g

    stopped : (d : Core System State Found Goal Reason) (r : Reply Found Reason) → AnswersStop m c r d → EventDoes c event.Stop r d
    stopped d (reply.Closed x) g = closes c c _ ending.Stopped (same_start c) refl (ends m c.goal c.base c.state c.entries c.quiet c.given c.left ending.Stopped (runs c l open_) tt) (λ _. inl refl) g.0 g.1
    stopped d (reply.Stale n) g = absurd g
    stopped d reply.Noted g = absurd g
    stopped d (reply.Batched p n r) g = absurd g
    stopped d reply.NoMemory g = absurd g
    stopped d (reply.Committed p) g = absurd g
    stopped d (reply.News es task) g = absurd g

    running : (d : Core System State Found Goal Reason) (e : Event Found) (r : Reply Found Reason) → MayCome m c e → AnswersRunning m c e r d → EventDoes c e r d
    running d (event.Look told from) r may g = looked c lawful l open_ d told from r g
    running d (event.Offer told f) r may g = offered c lawful l open_ d told f r g
    running d (event.Batch told fs) r may g = batched d told fs r may g
    running d (event.Fault told f) r may g = faulted d told f r g
    running d (event.Quiet told share) r may g = quieted d told share r may.2 g
    running d event.Stop r may g = stopped d r g

  by_ending : (o : Option (Ending Reason)) (c d : Core System State Found Goal Reason) (e : Event Found) (r : Reply Found Reason) → IsLawful m → Legal m c → c.ending ≡ o → MayCome m c e → AnswersWith m o c e r d → EventDoes c e r d
  by_ending None c d e r lawful l is may g = running c lawful l is d e r may g
  by_ending (Some x) c d e r lawful l is may g = ended c d e r x l is g.0 g.1

  pub event_does : (c d : Core System State Found Goal Reason) (e : Event Found) (r : Reply Found Reason) → IsLawful m → Legal m c → MayCome m c e → Answers m c e r d → EventDoes c e r d
  event_does c d e r lawful l may g = by_ending c.ending c d e r lawful l refl may g

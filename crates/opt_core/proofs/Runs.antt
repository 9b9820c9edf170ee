-- What any list of events does to a legal core.
use Rattle.std.proofs.Common.{◌≡◌, ℕ, zero, suc, ◌^◌, ◌<◌, ◌≤◌, inl, inr, List, [], ◌∷◌, ◌++◌, false, Option, Some, None, length, refl, sym, ◌∙◌, ap, subst, arith, append-nil, append_assoc}
use Rattle.opt_system.specs.declared.answers.Mode.TheVariants.{Once}
use Rattle.opt_system.specs.Meaning.{Meaning, applies, undone_by, IsLawful}
use Rattle.opt_core.specs.declared.event.Ending.{Ending}
use Rattle.opt_core.specs.declared.event.Reply.{Reply}
use Rattle.opt_core.specs.declared.event.Reply.TheVariants as reply
use Rattle.opt_core.specs.declared.event.Rest.{Rest}
use Rattle.opt_core.specs.declared.event.Rest.TheVariants as rest
use Rattle.opt_core.specs.declared.event.Event.TheVariants as event
use Rattle.opt_core.specs.Core.{Core, Legal, reached, AllApply, IsEnding}
use Rattle.opt_core.specs.Steps.{MayCome, AnswersWith, IsFresh}
use Rattle.opt_core.specs.Runs.{Answered, Each, commits, commits_of, matches_of, SameStart, Run, IsSound, at_end, IsLateStep, EveryRunIsSound, EveryRunFromStart, BaseIsBack, LateOffersAreSteps, ToldBatchesAreNotStale}
use Rattle.opt_core.proofs.Legal.{begun, reached_snoc}
use Rattle.opt_core.proofs.Batches.{committed_closed, not_stale}
use Rattle.opt_core.proofs.Events.{EventDoes, event_does}

module _ {Found Reason : Type 0} where
  batched_closed : {p n : ℕ} {r : Option (Rest Reason)} {x : Ending Reason} → ◌≡◌ {A = Reply Found Reason} (reply.Batched p n r) (reply.Closed x) → ⊥
  batched_closed e = cc

module _ {State Found Goal Reason : Type 0} (m : Meaning State Found Goal Reason) where
  -- taking back commutes with taking back
  undone_last : (k : ℕ) (at : State) → undone_by m k (m.undone at) ≡ m.undone (undone_by m k at)
  undone_last zero at = refl
  undone_last (suc k) at = undone_last k (m.undone at)

  taken_back : IsLawful m → (goal : Goal) (at : State) (es : List Found) → AllApply m goal at es → undone_by m (length es) (reached m at es) ≡ at
  taken_back lawful goal at [] all = refl
  taken_back lawful goal at (f ∷ fs) all = undone_last (length fs) (reached m (m.after at f) fs)
      ∙ ap m.undone (taken_back lawful goal (m.after at f) fs all.1) ∙ lawful.undoes goal at f all.0

module _ {System State Found Goal Reason : Type 0} where
  starts : {a b c : Core System State Found Goal Reason} → SameStart a b → SameStart b c → SameStart a c
  starts f g = record { system = g.system ∙ f.system; base = g.base ∙ f.base; goal = g.goal ∙ f.goal; given = g.given ∙ f.given }

module _ {System State Found Goal Reason : Type 0} (m : Meaning State Found Goal Reason) where
  -- a goal of one match has one entry at most
  at_most_one : (c : Core System State Found Goal Reason) → Legal m c → m.mode c.goal ≡ Once → length c.entries ≤ 1
  at_most_one c l once = elim (l.one_at_most once) [
    | inl e ↦ (let n : length c.entries ≡ 0 = ap length e in omega arith)
    | inr e ↦
        (let n = subst (λ (o : Option (Ending Reason)). IsEnding m c.goal c.state c.entries c.quiet c.given c.left o) e l.ended in let k = n.1 in omega arith)
  ]

  -- an ended core stays, and answers its ending
  shut : (c d : Core System State Found Goal Reason) (ts : List (Answered System State Found Goal Reason)) (x : Ending Reason) → Run m c ts d → c.ending ≡ Some x → Each (λ u. u.reply ≡ reply.Closed x) ts × (d ≡ c)
  shut c d [] x run is = (tt, run)
  shut c d (t ∷ ts) x run is =
      let before : t.before.ending ≡ Some x = ap (λ (y : Core System State Found Goal Reason). y.ending) run.0 ∙ is in
      let a : AnswersWith m (Some x) t.before t.event t.reply t.after = subst (λ (o : Option (Ending Reason)). AnswersWith m o t.before t.event t.reply t.after) before run.2 in
      let rest = shut t.after d ts x run.3 (ap (λ (y : Core System State Found Goal Reason). y.ending) a.1 ∙ before) in
      ((a.0, rest.0), rest.1 ∙ a.1 ∙ run.0)

  no_events : (c d : Core System State Found Goal Reason) → Legal m c → d ≡ c → IsSound m c [] d
  no_events c d l same = subst (λ (d : Core System State Found Goal Reason). IsSound m c [] d) (sym same) (record {
    legal = tt;
    legal_end = l;
    start = record { system = refl; base = refl; goal = refl; given = refl };
    answers = tt;
    entries_are = sym (append-nil c.entries);
    once = at_most_one c l;
    closed = tt;
  })

  one_more : (t : Answered System State Found Goal Reason) (ts : List (Answered System State Found Goal Reason)) (d : Core System State Found Goal Reason) → Legal m t.before
      → EventDoes m t.before t.event t.reply t.after → Run m t.after ts d → IsSound m t.after ts d → IsSound m t.before (t ∷ ts) d
  one_more t ts d l one run rest =
      let start = starts one.start rest.start in record {
        legal = (one.legal, rest.legal);
        legal_end = rest.legal_end;
        start = start;
        answers = (one.says, rest.answers);
        entries_are = rest.entries_are ∙ ap (λ (fs : List Found). fs ++ commits ts) one.adds ∙ append_assoc t.before.entries (matches_of (commits_of t.event t.reply)) (commits ts);
        once = λ once. at_most_one d rest.legal_end (ap m.mode start.goal ∙ once);
        closed = ((λ x is. shut t.after d ts x run is), rest.closed);
      }

  sound : IsLawful m → (c d : Core System State Found Goal Reason) (ts : List (Answered System State Found Goal Reason)) → Legal m c → Run m c ts d → IsSound m c ts d
  sound lawful c d [] l run = no_events c d l run
  sound lawful c d (t ∷ ts) l run =
      let before = subst (λ (y : Core System State Found Goal Reason). Legal m y) (sym run.0) l in
      let one = event_does m t.before t.after t.event t.reply lawful before run.1 run.2 in
      subst (λ (y : Core System State Found Goal Reason). IsSound m y (t ∷ ts) d) run.0
      (one_more t ts d before one run.3 (sound lawful t.after d ts one.legal run.3))

  -- a core that was just started is legal
  fresh : IsLawful m → (c : Core System State Found Goal Reason) (s : System) (base : State) (goal : Goal) (left : ℕ) → m.shares goal < 2 ^ 32 → left < 2 ^ 64 → IsFresh m c s base goal left → Legal m c
  fresh lawful c s base goal left few bounded is = subst (λ (y : Core System State Found Goal Reason). Legal m y) (sym is) (begun m lawful goal base left few bounded)

  late : (o : Option (Ending Reason)) (c d : Core System State Found Goal Reason) (told place : ℕ) (f : Found) → Legal m c → told ≤ length c.entries
      → AnswersWith m o c (event.Offer told f) (reply.Committed place) d → IsLateStep m c told place f d
  late (Some x) c d told place f l le h = absurd (committed_closed h.0)
  late None c d told place f l le h = record {
    older = let e = h.0 in omega arith;
    place_is = h.0;
    applies_now = subst (λ (s : State). m.judged c.goal s f ≡ applies) l.at_all h.1;
    entries_are = ap (λ (y : Core System State Found Goal Reason). y.entries) h.3;
    state_is = ap (λ (y : Core System State Found Goal Reason). at_end m y) h.3 ∙ reached_snoc m c.base c.entries f;
  }

  told_by : (o : Option (Ending Reason)) → IsLawful m → (c d : Core System State Found Goal Reason) (told p n k : ℕ) (fs : List Found) → Legal m c → told ≡ length c.entries → MayCome m c (event.Batch told fs)
      → AnswersWith m o c (event.Batch told fs) (reply.Batched p n (Some (rest.Stale k))) d → ⊥
  told_by (Some x) lawful c d told p n k fs l all may h = batched_closed h.0
  told_by None lawful c d told p n k fs l all may h = not_stale m lawful c h.1.3 d told k fs h.1.0 h.1.2 h.1.1 l all may.3 h.1.4 h.1.6 h.1.7

module _ (System : Type 0) {State Found Goal Reason : Type 0} (m : Meaning State Found Goal Reason) where
  pub every_run : IsLawful m → EveryRunIsSound System m
  every_run lawful c d es l run = sound m lawful c d es l run

  pub from_start : IsLawful m → EveryRunFromStart System m
  from_start lawful c d es s base goal left few bounded is run =
      let all = sound m lawful c d es (fresh m lawful c s base goal left few bounded is) run in
      (all, all.entries_are ∙ ap (λ (y : Core System State Found Goal Reason). y.entries ++ commits es) is)

  pub base_is_back : IsLawful m → BaseIsBack System m
  base_is_back lawful c l = ap (λ (at : State). undone_by m (length c.entries) at) l.at_all ∙ taken_back m lawful c.goal c.base c.entries l.each_applies

  pub late_steps : LateOffersAreSteps System m
  late_steps c d told place f l may h = late m c.ending c d told place f l may.0 h

  pub not_stale_told : IsLawful m → ToldBatchesAreNotStale System m
  not_stale_told lawful c d told p n k fs l all may h = told_by m c.ending lawful c d told p n k fs l all may h

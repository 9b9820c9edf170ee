-- What the offers of a batch do to a core.
use Rattle.std.proofs.Common.{◌≡◌, ◌≢◌, ℕ, zero, suc, ◌+◌, ◌<◌, ◌≤◌, ◌==◌, List, [], ◌∷◌, ◌++◌, Bool, true, false, cond, Option, Some, None, length, get_or, take, drop, refl, sym, ◌∙◌, ap, subst, arith, length-append, append-nil, append_assoc}
use Rattle.std.proofs.lemmas.List.{take_all, take-append-le, get_or_append_left, get_or_at}
use Rattle.std.proofs.lemmas.List.Elements.{All-cons}
use Rattle.std.proofs.lemmas.List.Kept.{AllPairs-cons}
use Rattle.std.specs.Prelude.{All, AllPairs}
use Rattle.opt_system.specs.declared.answers.Mode.{Mode}
use Rattle.opt_system.specs.declared.answers.Mode.TheVariants.{Once, Saturate}
use Rattle.opt_system.specs.Meaning.{Meaning, applies, IsLawful, AllIndependent}
use Rattle.opt_core.specs.declared.event.Ending.{Ending}
use Rattle.opt_core.specs.declared.event.Ending.TheVariants as ending
use Rattle.opt_core.specs.declared.event.Reply.{Reply}
use Rattle.opt_core.specs.declared.event.Reply.TheVariants as reply
use Rattle.opt_core.specs.declared.event.Rest.{Rest}
use Rattle.opt_core.specs.declared.event.Rest.TheVariants as rest
use Rattle.opt_core.specs.inside.Offers.{AllAppliedAt}
use Rattle.opt_core.specs.Core.{Core, Legal, IsLegal, AllApply, reached, at_first}
use Rattle.opt_core.specs.Steps.{AnswersOfferBy, AnswersAnyOffer, AllCommitted, reply_of, with_entry, ending_after}
use Rattle.opt_core.specs.Runs.{SameStart}
use Rattle.opt_core.proofs.Legal.{commits}

module _ {Found Reason : Type 0} where
  pub committed_closed : {place : ℕ} {x : Ending Reason} → ◌≡◌ {A = Reply Found Reason} (reply.Committed place) (reply.Closed x) → ⊥
  committed_closed e = cc

  stale_closed : {k : ℕ} {x : Ending Reason} → ◌≡◌ {A = Reply Found Reason} (reply.Stale k) (reply.Closed x) → ⊥
  stale_closed e = cc

module _ {Reason : Type 0} where
  pub not_stopped : (mode : Mode) (left : ℕ) → ending_after {Reason = Reason} mode left ≡ Some ending.Stopped → ⊥
  not_stopped Once left e = cc
  not_stopped Saturate left e = by (left == 1) e
    where
      by : (b : Bool) → cond {A = Option (Ending Reason)} b (Some ending.Bound) None ≡ Some ending.Stopped → ⊥
      by true e = cc
      by false e = cc

module _ {A : Type 0} where
  pub front : (n : ℕ) (xs ys : List A) → n ≡ length xs → take n (xs ++ ys) ≡ xs
  front zero [] ys e = refl
  front (suc n) [] ys e = absurd (omega arith)
  front zero (x ∷ xs) ys e = absurd (omega arith)
  front (suc n) (x ∷ xs) ys e = ap (λ (zs : List A). x ∷ zs) (front n xs ys (omega arith))

  pub behind : (n : ℕ) (xs ys : List A) → n ≡ length xs → drop n (xs ++ ys) ≡ ys
  behind zero [] ys e = refl
  behind (suc n) [] ys e = absurd (omega arith)
  behind zero (x ∷ xs) ys e = absurd (omega arith)
  behind (suc n) (x ∷ xs) ys e = behind n xs ys (omega arith)

module _ {State Found Goal Reason : Type 0} (m : Meaning State Found Goal Reason) where
  -- a match of independent ones applies after those before it
  in_turn : IsLawful m → (goal : Goal) (at : State) (before after : List Found) (f : Found) → AllIndependent m goal at (before ++ f ∷ after) → m.judged goal (reached m at before) f ≡ applies
  in_turn lawful goal at before after f all = lawful.follows goal at f before (record {
    each_applies = All-cons P f before (subst P here (all.each_applies (length before) f (omega (arith, long)))) (λ k d lt. subst P (front_at k d lt) (all.each_applies k d (omega (arith, long))));
    pairwise = AllPairs-cons (m.independent at) f before
        (λ k d lt. lawful.other_way at (get_or before k d) f (subst (λ (x : Found). m.independent at (get_or before k d) x) (here_at d)
        (subst (λ (x : Found). m.independent at x (get_or (before ++ f ∷ after) (length before) d)) (front_at k d lt) (all.pairwise k (length before) d lt (omega (arith, long))))))
        (λ i j d low high. subst (λ (x : Found). m.independent at x (get_or before j d)) (front_at i d (omega arith))
        (subst (λ (x : Found). m.independent at (get_or (before ++ f ∷ after) i d) x) (front_at j d high) (all.pairwise i j d low (omega (arith, long)))));
  })
    where
      P : Found → Type 0
      P x = m.judged goal at x ≡ applies

      long : length (before ++ f ∷ after) ≡ length before + suc (length after)
      long = length-append before (f ∷ after)

      here_at : (d : Found) → get_or (before ++ f ∷ after) (length before) d ≡ f
      here_at d = get_or_at before f after d (length before) refl

      here : get_or (before ++ f ∷ after) (length before) f ≡ f
      here = here_at f

      front_at : (k : ℕ) (d : Found) → k < length before → get_or (before ++ f ∷ after) k d ≡ get_or before k d
      front_at k d lt = get_or_append_left before (f ∷ after) d k lt

module _ {System State Found Goal Reason : Type 0} (m : Meaning State Found Goal Reason) where
  -- an offer that was committed
  pub record Commits (c : Core System State Found Goal Reason) (f : Found) (b : Core System State Found Goal Reason) : Type 0 where
    pub running : c.ending ≡ None
    pub now : m.judged c.goal c.state f ≡ applies
    pub some : 0 < c.left
    pub after : b ≡ with_entry m c f

  commits_by : (o : Option (Ending Reason)) (c b : Core System State Found Goal Reason) (told p : ℕ) (f : Found) → c.ending ≡ o → AnswersOfferBy m o c told f (reply.Committed p) b → Commits c f b
  commits_by None c b told p f is h = record { running = is; now = h.1; some = h.2; after = h.3 }
  commits_by (Some x) c b told p f is h = absurd (committed_closed h.0)

  -- what the offers do to the core, where all are committed
  pub record Chained (c : Core System State Found Goal Reason) (fs : List Found) (d : Core System State Found Goal Reason) : Type 0 where
    pub start : SameStart c d
    pub adds : d.entries ≡ c.entries ++ fs
    pub state : d.state ≡ reached m c.state fs
    pub applied : AllApply m c.goal c.state fs
    pub stopped : d.ending ≡ Some ending.Stopped → c.ending ≡ Some ending.Stopped

  linked : (c b d : Core System State Found Goal Reason) (f : Found) (fs : List Found) → Commits c f b → Chained b fs d → Chained c (f ∷ fs) d
  linked c b d f fs one rest = subst (λ (y : Core System State Found Goal Reason). Chained y fs d → Chained c (f ∷ fs) d) (sym one.after)
      (λ (r : Chained (with_entry m c f) fs d). record {
        start = record { system = r.start.system; base = r.start.base; goal = r.start.goal; given = r.start.given };
        adds = r.adds ∙ append_assoc c.entries (f ∷ []) fs;
        state = r.state;
        applied = (one.now, r.applied);
        stopped = λ e. absurd (not_stopped (m.mode c.goal) c.left (r.stopped e));
      }) rest

  pub chained : (c d : Core System State Found Goal Reason) (told : ℕ) (fs : List Found) → AllCommitted m c told fs d → Chained c fs d
  chained c d told [] all = subst (λ (y : Core System State Found Goal Reason). Chained c [] y) (sym all)
      record { start = record { system = refl; base = refl; goal = refl; given = refl }; adds = sym (append-nil c.entries); state = refl; applied = tt; stopped = λ e. e }
  chained c d told (f ∷ fs) all = linked c all.0 d f fs (commits_by c.ending c all.0 told all.1 f refl all.2) (chained all.0 d told fs all.3)

  legal_after : IsLawful m → (c b : Core System State Found Goal Reason) (f : Found) → Legal m c → Commits c f b → Legal m b
  legal_after lawful c b f l one = subst (λ (y : Core System State Found Goal Reason). Legal m y) (sym one.after)
      (commits m c.goal c.base c.state c.entries c.quiet c.given c.left f lawful (subst (λ (o : Option (Ending Reason)). IsLegal m c.goal c.base c.state c.entries c.quiet c.given c.left o) one.running l) one.now one.some)

  pub legal_chain : IsLawful m → (c d : Core System State Found Goal Reason) (told : ℕ) (fs : List Found) → Legal m c → AllCommitted m c told fs d → Legal m d
  legal_chain lawful c d told [] l all = subst (λ (y : Core System State Found Goal Reason). Legal m y) (sym all) l
  legal_chain lawful c d told (f ∷ fs) l all = legal_chain lawful all.0 d told fs (legal_after lawful c all.0 f l (commits_by c.ending c all.0 told all.1 f refl all.2)) all.3

  -- one more
  pub committed_last : (c b d : Core System State Found Goal Reason) (told p : ℕ) (fs : List Found) (f : Found) → AllCommitted m c told fs b → AnswersAnyOffer m b told f (reply.Committed p) d → AllCommitted m c told (fs ++ f ∷ []) d
  committed_last c b d told p [] f all h = (d, p, subst (λ (y : Core System State Found Goal Reason). AnswersAnyOffer m y told f (reply.Committed p) d) all h, refl)
  committed_last c b d told p (g ∷ gs) f all h = (all.0, all.1, all.2, committed_last all.0 b d told p gs f all.3 h)

  -- what applied at the first entries still did so
  pub applied_still : (c d : Core System State Found Goal Reason) (told : ℕ) (fs : List Found) (f : Found) → Chained c fs d → told ≤ length c.entries → m.judged c.goal (at_first m c told) f ≡ applies
      → m.judged d.goal (at_first m d told) f ≡ applies
  applied_still c d told fs f ch le now =
      let first : take told d.entries ≡ take told c.entries = ap (take told) ch.adds ∙ take-append-le told c.entries fs le in
      (λ i. m.judged (ch.start.goal i) (reached m (ch.start.base i) (first i)) f) ∙ now

  stale_by : (o : Option (Ending Reason)) (b d : Core System State Found Goal Reason) (told k : ℕ) (f : Found) → AnswersOfferBy m o b told f (reply.Stale k) d → m.judged b.goal b.state f ≢ applies
  stale_by None b d told k f h = h.1
  stale_by (Some x) b d told k f h = absurd (stale_closed h.0)

  -- where its sender was told of all entries, no match of a batch is stale
  pub not_stale : IsLawful m → (c b d : Core System State Found Goal Reason) (told k : ℕ) (fs before after : List Found) (f : Found) → Legal m c → told ≡ length c.entries
      → AllIndependent m c.goal (at_first m c told) fs → fs ≡ before ++ f ∷ after → AllCommitted m c told before b → AnswersAnyOffer m b told f (reply.Stale k) d → ⊥
  not_stale lawful c b d told k fs before after f l all apart is led h =
      let ch = chained c b told before led in
      let here : at_first m c told ≡ c.state = ap (λ (xs : List Found). reached m c.base xs) (take_all told c.entries (omega arith)) ∙ sym l.at_all in
      let turn = in_turn m lawful c.goal c.state before after f (subst (λ (xs : List Found). AllIndependent m c.goal c.state xs) is (subst (λ (s : State). AllIndependent m c.goal s fs) here apart)) in
      stale_by b.ending b d told k f h ((λ i. m.judged (ch.start.goal i) (ch.state i) f) ∙ turn)

  same_core : (b d : Core System State Found Goal Reason) → d ≡ b → SameStart b d × (d.entries ≡ b.entries)
  same_core b d same = subst (λ (y : Core System State Found Goal Reason). SameStart b y × (y.entries ≡ b.entries)) (sym same) (record { system = refl; base = refl; goal = refl; given = refl }, refl)

  -- where the first match that was not committed was offered, entries stay, and what it was started with
  pub rest_stays : (o : Option (Ending Reason)) (b d : Core System State Found Goal Reason) (told : ℕ) (f : Found) (r : Rest Reason) → AnswersOfferBy m o b told f (reply_of r) d → SameStart b d × (d.entries ≡ b.entries)
  rest_stays None b d told f (rest.Stale k) h = same_core b d h.0.2
  rest_stays None b d told f (rest.Closed x) h = subst (λ (y : Core System State Found Goal Reason). SameStart b y × (y.entries ≡ b.entries)) (sym h.3) (record { system = refl; base = refl; goal = refl; given = refl }, refl)
  rest_stays None b d told f rest.NoMemory h = same_core b d h
  rest_stays (Some x) b d told f r h = same_core b d h.1

  -- the loop over the matches of a batch: c is the core before it, d the one that the committed matches left
  module _ (c d : Core System State Found Goal Reason) (told : ℕ) (fs before after : List Found) (f : Found) (is : fs ≡ before ++ f ∷ after) (led : AllCommitted m c told before d) where
    pub next_applied : told ≤ length c.entries → AllAppliedAt m c told fs → m.judged d.goal (at_first m d told) f ≡ applies
    next_applied le all = applied_still c d told before f (chained c d told before led) le
        (subst (λ (x : Found). m.judged c.goal (at_first m c told) x ≡ applies) (get_or_at before f after f (length before) refl)
        (subst (λ (xs : List Found). All (λ x. m.judged c.goal (at_first m c told) x ≡ applies) xs) is all (length before) f (let long = length-append before (f ∷ after) in omega arith)))

  module _ (c d : Core System State Found Goal Reason) (told : ℕ) (before : List Found) (led : AllCommitted m c told before d) where
    pub told_still : told ≤ length c.entries → told ≤ length d.entries
    told_still le = let ch = chained c d told before led in let long = ap length ch.adds in omega (arith, length-append c.entries before)

    -- so many were committed
    pub counted : length d.entries ≡ length c.entries + length before
    counted = let ch = chained c d told before led in ap length ch.adds ∙ length-append c.entries before

    pub starts_then : (e : Core System State Found Goal Reason) → SameStart d e → SameStart c e
    starts_then e s = let ch = chained c d told before led in record { system = s.system ∙ ch.start.system; base = s.base ∙ ch.start.base; goal = s.goal ∙ ch.start.goal; given = s.given ∙ ch.start.given }

module _ {System State Found Goal Reason : Type 0} where
  pub same_count : {a b : Core System State Found Goal Reason} → a ≡ b → length a.entries ≡ length b.entries
  same_count e = ap (λ (x : Core System State Found Goal Reason). length x.entries) e

pub nothing_left : {X : Type 0} (xs : List X) → length xs ≡ 0 → xs ≡ []
nothing_left [] h = refl
nothing_left (x ∷ xs) h = absurd (omega arith)

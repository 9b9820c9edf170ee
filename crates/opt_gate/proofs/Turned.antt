-- What a turn of a seat is to its pass.
use Rattle.std.proofs.Common.{◌≡◌, ℕ, ◌+◌, ◌≤◌, ◌<◌, List, [], ◌∷◌, ◌++◌, Option, Some, None, length, take, drop, refl, sym, ◌∙◌, ap, arith, subst}
use Rattle.std.proofs.lemmas.List.{length-append, length-drop, take-append-le, take-append-drop, take_all, append-nil}
use Rattle.atomic_table.specs.Table.{Me}
use Rattle.atomic_table.specs.Seated.{TableId}
use Rattle.opt_system.specs.declared.answers.Mode.TheVariants.{Saturate}
use Rattle.opt_system.specs.Meaning.{Meaning, IsLawful, applies, faulty, Barren, AllIndependent}
use Rattle.opt_core.specs.declared.event.Ending.{Ending}
use Rattle.opt_core.specs.declared.event.Event.{Event}
use Rattle.opt_core.specs.declared.event.Event.TheVariants as event
use Rattle.opt_core.specs.declared.event.Reply.{Reply}
use Rattle.opt_core.specs.declared.event.Reply.TheVariants as reply
use Rattle.opt_core.specs.Core.{Core, Legal, AllApply, reached, at_first}
use Rattle.opt_core.specs.Steps.{Answers, AnswersWith, MayCome}
use Rattle.opt_core.specs.Runs.{SameStart, Says, commits_of, matches_of}
use Rattle.opt_core.proofs.Events.{event_does, placed_matches}
use Rattle.opt_gate.specs.declared.ask.Ask.{Ask}
use Rattle.opt_gate.specs.declared.ask.Ask.TheVariants as ask
use Rattle.opt_gate.specs.declared.key.Key.{Key}
use Rattle.opt_gate.specs.declared.view.View.{View}
use Rattle.opt_gate.specs.Lists.{StartsWith}
use Rattle.opt_gate.specs.inside.Totals.{placed_from}
use Rattle.opt_gate.specs.inside.Cores.{entries_of, ended_of, passes_of}
use Rattle.opt_gate.specs.inside.Plays.{resting, serving, passed, Shows}
use Rattle.opt_gate.specs.Pass.{PassView, IsWhole, OwnsRightly}
use Rattle.opt_gate.specs.Turn.{event_of, stops_of, news_of, entries_told, pass_after, told_after, MayAsk, IsTrueEnding, IsOneEvent}
use Rattle.opt_gate.specs.inside.Seats.{told_and_handed, Acts}
use Rattle.opt_gate.proofs.Owns.{rest_is}
use Rattle.opt_gate.proofs.Led.{one_key}
use Rattle.opt_gate.proofs.Taking.{none_out}
use Rattle.opt_gate.proofs.Prefixes.{starts_trans}

module _ {A : Type 0} where
  take_seen : (list seen : List A) (n : ℕ) → StartsWith list seen → n ≤ length seen → take n list ≡ take n seen
  take_seen list seen n s le = ap (λ (l : List A). take n l) s.1 ∙ take-append-le n seen s.0 le

  pub seen_le : (list seen : List A) → StartsWith list seen → length seen ≤ length list
  seen_le list seen s = let e = ap (λ (l : List A). length l) s.1 in let n = length-append seen s.0 in omega arith

  placed_rest : (list seen rest : List A) → list ≡ seen ++ rest → placed_from (length seen) (drop (length seen) list) ≡ placed_from (length seen) rest
  placed_rest list seen rest e = ap (λ (l : List A). placed_from (length seen) l) (rest_is list seen (rest, e))

module _ {Found Reason : Type 0} where
  news_closed : {es : List Found} {task : ℕ} {x : Ending Reason} → ◌≡◌ {A = Reply Found Reason} (reply.News es task) (reply.Closed x) → ⊥
  news_closed e = cc

  pub told_fits : (told n : ℕ) (r : Reply Found Reason) → told ≤ n → told_after told r n ≤ n
  told_fits told n (reply.News es task) le = omega arith
  told_fits told n (reply.Committed place) le = le
  told_fits told n (reply.Stale k) le = le
  told_fits told n reply.Noted le = le
  told_fits told n (reply.Batched p k r) le = le
  told_fits told n (reply.Closed x) le = le
  told_fits told n reply.NoMemory le = le

module _ {System State Found Goal Reason : Type 0} (m : Meaning State Found Goal Reason) where
  -- what may be asked by what a pass was told may come to a core that begins with what it knows
  module _ (start c : Core System State Found Goal Reason) (told : ℕ) (knows : List Found) (same : SameStart start c) (starts : StartsWith c.entries knows) (le : told ≤ length knows) where
    told_le : told ≤ length c.entries
    told_le = let n = seen_le c.entries knows starts in omega arith

    same_at : at_first m c told ≡ reached m start.base (take told knows)
    same_at = ap (λ (es : List Found). reached m c.base es) (take_seen c.entries knows told starts le) ∙ ap (λ (b : State). reached m b (take told knows)) same.base

    -- a fact at the goal of the start and at the state that was told is one of the core
    moved : (P : Goal → State → Type 0) → P start.goal (reached m start.base (take told knows)) → P c.goal (at_first m c told)
    moved P h = subst (λ (goal : Goal). P goal (at_first m c told)) (sym same.goal) (subst (λ (at : State). P start.goal at) (sym same_at) h)

    comes : (p : PassView (Key (Core System State Found Goal Reason)) Found Reason) (a : Ask Found) → p.told ≡ told → p.knows ≡ knows → MayAsk m start p a → MayCome m c (event_of told a)
    comes p (ask.Look from) is_told is_known may = told_le
    comes p (ask.Offer f) is_told is_known may = (told_le, moved (λ goal at. m.judged goal at f ≡ applies) (rw (is_told, is_known) at may))
    comes p (ask.Batch fs) is_told is_known may = (told_le, subst (λ (goal : Goal). m.mode goal ≡ Saturate) (sym same.goal) may.0, may.1, moved (λ goal at. AllIndependent m goal at fs) (rw (is_told, is_known) at may.2))
    comes p (ask.Fault f) is_told is_known may = (told_le, (may.0, moved (λ goal at. m.judged goal at f ≡ faulty may.0) (rw (is_told, is_known) at may.1)))
    comes p (ask.Quiet share) is_told is_known may = (told_le, subst (λ (goal : Goal). share < m.shares goal) (sym same.goal) may.0, moved (λ goal at. Barren m goal share at) (rw (is_told, is_known) at may.1))
    comes p ask.Stop is_told is_known may = tt

    pub asks_come : (p : PassView (Key (Core System State Found Goal Reason)) Found Reason) (a : Ask Found) (e : Event Found) → e ≡ event_of told a → p.told ≡ told → p.knows ≡ knows → MayAsk m start p a → MayCome m c e
    asks_come p a e is is_told is_known may = subst (λ (x : Event Found). MayCome m c x) (sym is) (comes p a is_told is_known may)

  -- News hands over all entries
  module _ (c d : Core System State Found Goal Reason) (told : ℕ) (le : told ≤ length c.entries) where
    news : (o : Option (Ending Reason)) (a : Ask Found) (es : List Found) (task : ℕ) → AnswersWith m o c (event_of told a) (reply.News es task) d → told + length es ≡ length d.entries
    news (Some x) a es task h = absurd (news_closed h.0)
    news None (ask.Look from) es task h =
        let a = ap (λ (l : List Found). length l) h.0 in let b = length-drop told c.entries in let e = ap (λ (x : Core System State Found Goal Reason). length x.entries) h.2 in omega arith
    news None (ask.Offer f) es task h = absurd h
    news None (ask.Batch fs) es task h = absurd h
    news None (ask.Fault f) es task h = absurd h
    news None (ask.Quiet share) es task h = absurd h
    news None ask.Stop es task h = absurd h

    pub handed : (a : Ask Found) (r : Reply Found Reason) → Answers m c (event_of told a) r d → told_and_handed told r ≡ told_after told r (length d.entries)
    handed a (reply.News es task) h = news c.ending a es task h
    handed a (reply.Committed place) h = refl
    handed a (reply.Stale n) h = refl
    handed a reply.Noted h = refl
    handed a (reply.Batched p n r) h = refl
    handed a (reply.Closed x) h = refl
    handed a reply.NoMemory h = refl

  -- the entries that a turn adds, with their places
  placed : (c d : Core System State Found Goal Reason) (e : Event Found) (r : Reply Found Reason) → Says m c e r d → placed_from (length c.entries) (matches_of (commits_of e r)) ≡ commits_of e r
  placed c d (event.Offer told f) (reply.Committed place) s = ap (λ (n : ℕ). (n, f) ∷ []) (sym s.3)
  placed c d (event.Offer told f) (reply.News es task) s = refl
  placed c d (event.Offer told f) (reply.Stale n) s = refl
  placed c d (event.Offer told f) reply.Noted s = refl
  placed c d (event.Offer told f) (reply.Batched p n r) s = refl
  placed c d (event.Offer told f) (reply.Closed x) s = refl
  placed c d (event.Offer told f) reply.NoMemory s = refl
  placed c d (event.Batch told fs) (reply.Batched p n r) s = ap (λ (gs : List Found). placed_from (length c.entries) gs) (placed_matches p (take n fs)) ∙ ap (λ (k : ℕ). placed_from k (take n fs)) (sym s.3)
  placed c d (event.Batch told fs) (reply.News es task) s = refl
  placed c d (event.Batch told fs) (reply.Committed place) s = refl
  placed c d (event.Batch told fs) (reply.Stale n) s = refl
  placed c d (event.Batch told fs) reply.Noted s = refl
  placed c d (event.Batch told fs) (reply.Closed x) s = refl
  placed c d (event.Batch told fs) reply.NoMemory s = refl
  placed c d (event.Look told from) r s = refl
  placed c d (event.Fault told f) r s = refl
  placed c d (event.Quiet told share) r s = refl
  placed c d event.Stop r s = refl

  commits : (c d : Core System State Found Goal Reason) (e : Event Found) (r : Reply Found Reason) → IsLawful m → Legal m c → MayCome m c e → Answers m c e r d
      → placed_from (length c.entries) (drop (length c.entries) d.entries) ≡ commits_of e r
  commits c d e r lawful legal may h = let t = event_does m c d e r lawful legal may h in placed_rest d.entries c.entries (matches_of (commits_of e r)) t.adds ∙ placed c d e r t.says

  adds : (c d : Core System State Found Goal Reason) (e : Event Found) (r : Reply Found Reason) → IsLawful m → Legal m c → MayCome m c e → Answers m c e r d → StartsWith d.entries c.entries
  adds c d e r lawful legal may h = let t = event_does m c d e r lawful legal may h in (matches_of (commits_of e r), t.adds)

  -- what was told then: what was told before, and the entries of the News
  module _ (c d : Core System State Found Goal Reason) (told : ℕ) (le : told ≤ length c.entries) where
    all_told : (o : Option (Ending Reason)) (a : Ask Found) (es : List Found) (task : ℕ) → AnswersWith m o c (event_of told a) (reply.News es task) d → take (told + length es) d.entries ≡ take told c.entries ++ es
    all_told (Some x) a es task h = absurd (news_closed h.0)
    all_told None (ask.Look from) es task h =
        let a = ap (λ (l : List Found). length l) h.0 in let b = length-drop told c.entries in
        let all : length c.entries ≤ told + length es = omega arith in
        ap (λ (x : Core System State Found Goal Reason). take (told + length es) x.entries) h.2
        ∙ (take_all (told + length es) c.entries all ∙ (sym (take-append-drop told c.entries) ∙ ap (λ (l : List Found). take told c.entries ++ l) (sym h.0)))
    all_told None (ask.Offer f) es task h = absurd h
    all_told None (ask.Batch fs) es task h = absurd h
    all_told None (ask.Fault f) es task h = absurd h
    all_told None (ask.Quiet share) es task h = absurd h
    all_told None ask.Stop es task h = absurd h

    same_told : StartsWith d.entries c.entries → take told d.entries ≡ take told c.entries ++ []
    same_told s = take_seen d.entries c.entries told s le ∙ sym (append-nil (take told c.entries))

    told_more : (a : Ask Found) (r : Reply Found Reason) → StartsWith d.entries c.entries → Answers m c (event_of told a) r d → take (told_and_handed told r) d.entries ≡ take told c.entries ++ news_of r
    told_more a (reply.News es task) s h = all_told c.ending a es task h
    told_more a (reply.Committed place) s h = same_told s
    told_more a (reply.Stale n) s h = same_told s
    told_more a reply.Noted s h = same_told s
    told_more a (reply.Batched p n r) s h = same_told s
    told_more a (reply.Closed x) s h = same_told s
    told_more a reply.NoMemory s h = same_told s

  -- the ending of a legal core is true after its entries
  pub true_ending : (start d : Core System State Found Goal Reason) → SameStart start d → Legal m d → (x : Ending Reason) → d.ending ≡ Some x → IsTrueEnding m start d.entries x
  true_ending start d same legal x is = record { core = d; of_start = same; legal = legal; entries = refl; ending = is }

-- what contracts see of a seat's view
module _ {K F R : Type 0} where
  abbrev pub seen_as : View K F R → TableId → ℕ → ℕ → ℕ → PassView K F R
  seen_as v table number told room = record { table = table; key = v.key; number = number; told = told; room = room; knows = v.knows; ending = v.ending; own = v.own; stops = v.stops }

module _ {System State Found Goal Reason : Type 0} where
  pub of_its_key : (o : Option (Key (Core System State Found Goal Reason))) (k key : Key (Core System State Found Goal Reason)) (c : Core System State Found Goal Reason) → o ≡ Some k → o ≡ Some key → SameStart k.core.value c → SameStart key.core.value c
  of_its_key o k key c e f same = subst (λ (x : Key (Core System State Found Goal Reason)). SameStart x.core.value c) (one_key o k key e f) same

  pub whole_pass : (key : Key (Core System State Found Goal Reason)) (v : View (Key (Core System State Found Goal Reason)) Found Reason) (table : TableId) (number told room : ℕ)
      → Shows passes_of v → v.key ≡ Some key → room ≡ v.room → IsWhole key (seen_as v table number told room)
  whole_pass key v table number told room t is same = record {
    each_once = λ full. t.all_own key is (sym same ∙ full);
    stopped = λ full. t.all_stops key is (sym same ∙ full);
  }

module _ {System State Found Goal Reason : Type 0} (m : Meaning State Found Goal Reason) (lawful : IsLawful m) (key : Key (Core System State Found Goal Reason))
    (v : View (Key (Core System State Found Goal Reason)) Found Reason) (table : TableId) (number told room : ℕ) (a : Ask Found) (e : Event Found) (r : Reply Found Reason)
    (n : Me (Option (Core System State Found Goal Reason)) (View (Key (Core System State Found Goal Reason)) Found Reason))
    (acts : Acts m v e r n) (is : e ≡ event_of told a) (le : told ≤ length v.knows) (keyed : v.key ≡ Some key) where
  may : MayCome m acts.before (event_of told a)
  may = subst (λ (x : Event Found). MayCome m acts.before x) is acts.may_come

  answered : Answers m acts.before (event_of told a) r acts.after
  answered = subst (λ (x : Event Found). Answers m acts.before x r acts.after) is acts.answers

  told_b : told ≤ length acts.before.entries
  told_b = let x = seen_le acts.before.entries v.knows acts.knew in omega arith

  pub now_told : told_and_handed told r ≡ told_after told r (length acts.after.entries)
  now_told = handed m acts.before acts.after told told_b a r answered

  longer_after : length acts.before.entries ≤ length acts.after.entries
  longer_after = let t = event_does m acts.before acts.after e r lawful acts.legal acts.may_come acts.answers in
      let x = ap (λ (l : List Found). length l) t.adds in let y = length-append acts.before.entries (matches_of (commits_of e r)) in omega arith

  sight : n.0 ≡ passed entries_of ended_of (stops_of e) (serving entries_of ended_of v acts.before) acts.after
  sight = ap (λ (x : Me (Option (Core System State Found Goal Reason)) (View (Key (Core System State Found Goal Reason)) Found Reason)). x.0) acts.me

  -- the number that was told lies within what is known, and fits in a word
  pub told_known : told_and_handed told r ≤ length n.0.knows
  told_known =
      let x : n.0.knows ≡ acts.after.entries = ap (λ (w : View (Key (Core System State Found Goal Reason)) Found Reason). w.knows) sight in
      let y = ap (λ (l : List Found). length l) x in let z = told_fits told (length acts.after.entries) r (let l = longer_after in let t = told_b in omega arith) in
      let w = now_told in omega arith

  -- the pass after the turn, with these commits, told number and stops
  after_with : List (ℕ × Found) → ℕ → ℕ → PassView (Key (Core System State Found Goal Reason)) Found Reason
  after_with own told' stops = record { table = table; key = v.key; number = number; told = told'; room = room; knows = acts.after.entries; ending = acts.after.ending; own = v.own ++ own; stops = v.stops + stops }

  pass_is : seen_as n.0 table number (told_and_handed told r) room ≡ pass_after (seen_as v table number told room) a r acts.after.entries acts.after.ending
  unfolding after_with
  pass_is = ap (λ (w : View (Key (Core System State Found Goal Reason)) Found Reason). seen_as w table number (told_and_handed told r) room) sight
      ∙ (ap (λ (own : List (ℕ × Found)). after_with own (told_and_handed told r) (stops_of e)) (commits m acts.before acts.after e r lawful acts.legal acts.may_come acts.answers)
      ∙ (ap (λ (x : Event Found). after_with (commits_of x r) (told_and_handed told r) (stops_of x)) is
      ∙ ap (λ (t : ℕ). after_with (commits_of (event_of told a) r) t (stops_of (event_of told a))) now_told))

  known_is : n.0.knows ≡ acts.after.entries
  known_is = ap (λ (w : View (Key (Core System State Found Goal Reason)) Found Reason). w.knows) sight

  ended_is : n.0.ending ≡ acts.after.ending
  ended_is = ap (λ (w : View (Key (Core System State Found Goal Reason)) Found Reason). w.ending) sight

  -- an answer that the goal has ended names the ending that the pass knows then
  pub closed_then : (x : Ending Reason) → r ≡ reply.Closed x → n.0.ending ≡ Some x
  closed_then x closed =
      let t = event_does m acts.before acts.after e r lawful acts.legal acts.may_come acts.answers in
      ended_is ∙ (subst (λ (y : Reply Found Reason). Says m acts.before e y acts.after) closed t.says).0

  -- an ending that the pass knew stays
  stays_seen : (x : Ending Reason) → v.ending ≡ Some x → (r ≡ reply.Closed x) × (n.0.ending ≡ Some x) × (n.0.knows ≡ v.knows)
  stays_seen x end =
      let b = acts.stood x end in
      let h : AnswersWith m (Some x) acts.before e r acts.after = subst (λ (o : Option (Ending Reason)). AnswersWith m o acts.before e r acts.after) b.0 acts.answers in
      (h.0, ended_is ∙ (ap (λ (c : Core System State Found Goal Reason). c.ending) h.1 ∙ b.0), known_is ∙ (ap (λ (c : Core System State Found Goal Reason). c.entries) h.1 ∙ b.1))

  -- all that the pass knows then applies
  pub applies_then : AllApply m key.core.value.goal key.core.value.base n.0.knows
  applies_then =
      let t = event_does m acts.before acts.after e r lawful acts.legal acts.may_come acts.answers in
      let o = (acts.of_key key keyed).0 in
      subst (λ (l : List Found). AllApply m key.core.value.goal key.core.value.base l) (sym known_is)
      (subst (λ (g : Goal). AllApply m g key.core.value.base acts.after.entries) (t.start.goal ∙ o.goal)
      (subst (λ (b : State). AllApply m acts.after.goal b acts.after.entries) (t.start.base ∙ o.base) acts.legal_after.each_applies))

  -- the facts of a turn, over the pass p before it and whatever is equal to what is seen after it
  module _ (p : PassView (Key (Core System State Found Goal Reason)) Found Reason) (table' : TableId) (told' : ℕ) (is_p : seen_as v table number told room ≡ p) (is_table : table' ≡ table) (is_told : told' ≡ told_and_handed told r) where
    same_after : seen_as n.0 table' number told' room ≡ seen_as n.0 table number (told_and_handed told r) room
    same_after = ap (λ (t : TableId). seen_as n.0 t number told' room) is_table ∙ ap (λ (t : ℕ). seen_as n.0 table number t room) is_told

    pub pass_then : seen_as n.0 table' number told' room ≡ pass_after p a r n.0.knows n.0.ending
    pass_then = same_after ∙ (pass_is ∙ (ap (λ (q : PassView (Key (Core System State Found Goal Reason)) Found Reason). pass_after q a r acts.after.entries acts.after.ending) is_p
        ∙ (ap (λ (l : List Found). pass_after p a r l acts.after.ending) (sym known_is) ∙ ap (λ (x : Option (Ending Reason)). pass_after p a r n.0.knows x) (sym ended_is))))

    pub one_event : IsOneEvent m key.core.value p a r (seen_as n.0 table' number told' room)
    one_event = subst (λ (p : PassView (Key (Core System State Found Goal Reason)) Found Reason). IsOneEvent m key.core.value p a r (seen_as n.0 table' number told' room)) is_p record {
      before = acts.before;
      after = acts.after;
      of_start = (acts.of_key key keyed).0;
      led = (acts.of_key key keyed).1;
      may_come = may;
      answers = answered;
      legal = acts.legal;
      legal_after = acts.legal_after;
      knew = acts.knew;
      stood = acts.stood;
      knows = known_is;
      ending = ended_is;
    }

    pub told_then : entries_told (seen_as n.0 table' number told' room) ≡ entries_told p ++ news_of r
    told_then =
        let kept : take told acts.before.entries ≡ take told v.knows = take_seen acts.before.entries v.knows told acts.knew le in
        let now : entries_told (seen_as n.0 table' number told' room) ≡ take (told_and_handed told r) acts.after.entries = ap (λ (t : ℕ). take t n.0.knows) is_told ∙ ap (λ (l : List Found). take (told_and_handed told r) l) known_is in
        now ∙ (told_more m acts.before acts.after told told_b a r (adds m acts.before acts.after e r lawful acts.legal acts.may_come acts.answers) answered
        ∙ (ap (λ (l : List Found). l ++ news_of r) kept ∙ ap (λ (q : PassView (Key (Core System State Found Goal Reason)) Found Reason). entries_told q ++ news_of r) is_p))

    pub stays_then : (x : Ending Reason) → p.ending ≡ Some x → (r ≡ reply.Closed x) × (n.0.ending ≡ Some x) × (n.0.knows ≡ p.knows)
    stays_then x end =
        let s = stays_seen x (ap (λ (q : PassView (Key (Core System State Found Goal Reason)) Found Reason). q.ending) is_p ∙ end) in
        (s.0, s.1, s.2 ∙ ap (λ (q : PassView (Key (Core System State Found Goal Reason)) Found Reason). q.knows) is_p)

  -- the ending that the pass knows then is true
  pub ending_known : (x : Ending Reason) → n.0.ending ≡ Some x → IsTrueEnding m key.core.value n.0.knows x
  ending_known x end =
      let known : n.0.knows ≡ acts.after.entries = ap (λ (w : View (Key (Core System State Found Goal Reason)) Found Reason). w.knows) sight in
      let ended : acts.after.ending ≡ Some x = sym (ap (λ (w : View (Key (Core System State Found Goal Reason)) Found Reason). w.ending) sight) ∙ end in
      let t = event_does m acts.before acts.after e r lawful acts.legal acts.may_come acts.answers in let o = (acts.of_key key keyed).0 in
      let same : SameStart key.core.value acts.after = record { system = t.start.system ∙ o.system; base = t.start.base ∙ o.base; goal = t.start.goal ∙ o.goal; given = t.start.given ∙ o.given } in
      subst (λ (l : List Found). IsTrueEnding m key.core.value l x) (sym known) (true_ending m key.core.value acts.after same acts.legal_after x ended)

  -- what the pass knew begins what it knows then
  pub further_then : StartsWith n.0.knows v.knows
  further_then = starts_trans n.0.knows acts.before.entries v.knows
      (subst (λ (l : List Found). StartsWith l acts.before.entries) (sym known_is) (adds m acts.before acts.after e r lawful acts.legal acts.may_come acts.answers)) acts.knew

  pub whole_then : (table' : TableId) (told' : ℕ) → room ≡ v.room → IsWhole key (seen_as n.0 table' number told' room)
  whole_then table' told' same = subst (λ (w : View (Key (Core System State Found Goal Reason)) Found Reason). IsWhole key (seen_as w table' number told' room)) (sym sight)
      (whole_pass key (passed entries_of ended_of (stops_of e) (serving entries_of ended_of v acts.before) acts.after) table' number told' room acts.shows keyed same)

  pub own_then : (table' : TableId) (told' : ℕ) → OwnsRightly (seen_as n.0 table' number told' room)
  own_then table' told' = subst (λ (w : View (Key (Core System State Found Goal Reason)) Found Reason). OwnsRightly (seen_as w table' number told' room)) (sym sight) record { at_places = acts.shows.own; once = acts.shows.once }

  pub room_stays : n.0.room ≡ v.room
  room_stays = ap (λ (w : View (Key (Core System State Found Goal Reason)) Found Reason). w.room) sight

  pub rests_again : n ≡ (resting n.0, [])
  rests_again = acts.me ∙ sym (ap (λ (x : Me (Option (Core System State Found Goal Reason)) (View (Key (Core System State Found Goal Reason)) Found Reason)). (resting x.0, none_out)) acts.me)

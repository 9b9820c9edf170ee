-- What a goal that a crew pursued came to, as what an engine answers.
use Rattle.std.proofs.Common.{◌≡◌, inl, inr, ℕ, zero, suc, ◌+◌, ◌-◌, ◌*◌, ◌<◌, ◌%◌, min, Bool, true, false, List, [], ◌∷◌, ◌++◌, map, length, take, drop, slice_get, Contains, All, Option, Some, None, refl, sym, ap, subst, ◌∙◌, arith}
use Rattle.std.specs.Prelude.{if◌then◌else◌}
use Rattle.std.specs.Option.{option_map}
use Rattle.gp_memory.proofs.Basics.{some_at as element}
use Rattle.gp_values.specs.Graph.{Graph}
use Rattle.gp_syntax.specs.declared.found.Item.{Item}
use Rattle.gp_syntax.specs.declared.found.Item.TheVariants as items
use Rattle.gp_syntax.specs.declared.kinds.NumberKind.{NumberKind}
use Rattle.gp_syntax.specs.Rule.{Rule, Found}
use Rattle.gp_syntax.specs.Step.{IsFaulty, Blocked}
use Rattle.gp_syntax.specs.Run as meant
use Rattle.gp_syntax.specs.Run.{Program, Call, Stepped, Turned, Gives, Fails, At, counted, Run, call_fails, call_stands}
use Rattle.gp_syntax.specs.Tree.{rule_of_tree, program_of_tree, item_of}
use Rattle.gp_syntax.specs.WellFormed.{IsWellFormed}
use Rattle.gp_syntax.proofs.Loops.{SoFar, at_first}
use Rattle.gp_match.specs.Judge.{judged}
use Rattle.gp_match.specs.Judge as matches
use Rattle.gp_match.specs.Laws.{IsJudged}
use Rattle.gp_match.proofs.Judges.{judged_match}
use Rattle.opt_system.specs.Meaning.{Judged, applies, faulty, neither}
use Rattle.opt_system.specs.declared.answers.Mode.TheVariants.{Once, Saturate}
use Rattle.opt_core.specs.declared.event.Ending.{Ending}
use Rattle.opt_core.specs.declared.event.Ending.TheVariants as ending
use Rattle.opt_core.specs.Core.{reached, AllApply, IsLegal}
use Rattle.gp_journal.specs.Trail.{Trail, advanced}
use Rattle.gp_journal.specs.Journal.{items_of}
use Rattle.gp_system.specs.inside.Noted.{noted}
use Rattle.gp_run.specs.Engine.{View, live_with, kept_with, Adds, Keeps, MakesCall, IsSpent, HasFaulty, HasCalled, HasRepeated, HasTurned, TurnMade}
use Rattle.gp_run.specs.declared.engine.Called.TheVariants as called
use Rattle.gp_run.specs.declared.engine.Turned.TheVariants as turned
use Rattle.gp_run.specs.declared.engine.Repeated.{Repeated}
use Rattle.gp_run.specs.declared.engine.Repeated.TheVariants as repeated
use Rattle.gp_run.specs.Ended.{HasEnded}
use Rattle.gp_run.proofs.Leads.{adds-nothing, counted-append, kept_with-append, keeps_nothing, keeps_still, keeps_keeps}
use Rattle.gp_run.proofs.Turns.{Turns, turns_bound, turns_spent, turns_faulty, turns_end}
use Rattle.gp_system.specs.declared.goal.CallGoal.{CallGoal}
use Rattle.gp_system.specs.declared.goal.Fault.{Fault}
use Rattle.gp_system.specs.Gp.{RuleSystem, rules_of, has, with_rule, judged_by, judged_in, gp_means}
use Rattle.gp_system.specs.inside.Viewed.{Shown, view_of, kept_and}
use Rattle.gp_system.specs.inside.AfterTurn.{GoesOn}
use Rattle.gp_system.specs.inside.Pursued.{HasPursued, turns_first, system_of, called_of}
use Rattle.gp_sets.proofs.Searches.{renumbered_applies, renumbered_faulty}
use Rattle.gp_system.proofs.Systems.{contains_has, judged_applies, judged_faulty, well_formed_at, there}
use Rattle.gp_system.proofs.Goes.{goes_by}
use Rattle.gp_system.proofs.Marks.{stack, stands_behind, live_turns}
use Rattle.gp_system.proofs.Sessions.{same_view, seen_open, kept_more}
use Rattle.gp_system.proofs.Pursuits.{turned_over, but_taken, all_taken, called_once, so_far_on, has_applying}

-- ---- what the ending says of the graph

-- a faulty match is of a rule of the set
record IsFaultOf (rules : List Rule) (sets : List (List ℕ)) (c : ℕ) (g : Graph) (r : Fault) : Type 0 where
  pub set : List ℕ
  pub is_set : slice_get sets c ≡ Some set
  pub in_set : Contains set r.rule
  pub the_rule : Rule
  pub is_rule : slice_get rules r.rule ≡ Some the_rule
  pub found : Found
  pub faulty : IsFaulty the_rule g found r.kind

by_set_faulty : (b : Bool) (x : Judged Fault) (r : Fault) → (if b then x else neither) ≡ faulty r → (b ≡ true) × (x ≡ faulty r)
by_set_faulty true x r e = (refl, e)
by_set_faulty false x r e = absurd cc

same_reason : (r q : Fault) → faulty r ≡ faulty q → r ≡ q
same_reason r q e = cc

fault_of : (q : Rule) (g : Graph) (m : Found) (j : matches.Judged) (r : Fault) → j ≡ judged q g m → IsJudged q g m → with_rule m.rule j ≡ faulty r → (m.rule ≡ r.rule) × IsFaulty q g m r.kind
fault_of q g m matches.applies r e w h = absurd cc
fault_of q g m (matches.faulty k) r e w h =
    let s : record { rule = m.rule; kind = k } ≡ r = same_reason (record { rule = m.rule; kind = k }) r h in
    (ap (λ (f : Fault). f.rule) s, subst (λ (x : NumberKind). IsFaulty q g m x) (ap (λ (f : Fault). f.kind) s) ((w.to_be_faulty k).0 (sym e)))
fault_of q g m matches.neither r e w h = absurd cc

fault_in : (rules : List Rule) (sets : List (List ℕ)) (c : ℕ) (g : Graph) (m : Found) (r : Fault) → All IsWellFormed rules → judged_in (slice_get sets c) rules g m ≡ faulty r → IsFaultOf rules sets c g r
fault_in rules sets c g m r w e = in_it (slice_get sets c) refl e
  where
    of_rule : (set : List ℕ) → slice_get sets c ≡ Some set → has m.rule set ≡ true → (o : Option Rule) → slice_get rules m.rule ≡ o → judged_by o g m ≡ faulty r → IsFaultOf rules sets c g r
    of_rule set i h None f j = absurd cc
    of_rule set i h (Some q) f j =
        let x = fault_of q g m (judged q g m) r refl (judged_match q g m (well_formed_at rules m.rule q w f)) j in
        record {
          set = set;
          is_set = i;
          in_set = subst (Contains set) x.0 (contains_has set m.rule h);
          the_rule = q;
          is_rule = subst (λ (k : ℕ). slice_get rules k ≡ Some q) x.0 f;
          found = m;
          faulty = x.1;
        }

    in_it : (o : Option (List ℕ)) → slice_get sets c ≡ o → judged_in o rules g m ≡ faulty r → IsFaultOf rules sets c g r
    in_it None i h = absurd cc
    in_it (Some set) i h = let x = by_set_faulty (has m.rule set) (judged_by (slice_get rules m.rule) g m) r h in of_rule set i x.0 (slice_get rules m.rule) refl x.1

module _ (s : RuleSystem) (w : All IsWellFormed (rules_of s)) where
  blocked_in : (goal : CallGoal) (set : List ℕ) (t : Trail) → slice_get s.sets goal.call ≡ Some set → ((m : Found) → (gp_means s).judged goal t m ≡ neither) → Blocked (rules_of s) set t.graph
  blocked_in goal set t e none = record {
    none_applies = λ i r m c f a.
        let n : Found = record m { rule = i } in
        let j : (gp_means s).judged goal t n ≡ applies = there judged_match s w goal set t.graph n r e c f ∙ judged_applies r t.graph n (judged_match r t.graph n (well_formed_at (rules_of s) i r w f)) (renumbered_applies r t.graph m i a) in
        let k : neither ≡ applies = sym (none n) ∙ j in
        absurd cc;
    none_faulty = λ i r m kind c f a.
        let n : Found = record m { rule = i } in
        let j : (gp_means s).judged goal t n ≡ faulty (record { rule = i; kind = kind }) = there judged_match s w goal set t.graph n r e c f ∙ judged_faulty r t.graph n (judged_match r t.graph n (well_formed_at (rules_of s) i r w f)) kind (renumbered_faulty r t.graph m i kind a) in
        let k : neither ≡ faulty (record { rule = i; kind = kind }) = sym (none n) ∙ j in
        absurd cc;
  }

-- ---- a goal between two moments

items-append : (is js : List Item) → items_of (is ++ js) ≡ items_of is ++ items_of js
items-append [] js = refl
items-append (i ∷ is) js = ap (λ (l : List meant.Item). item_of i ∷ l) (items-append is js)

-- where the goal led, with all that takes its steps back
abbrev reached_run : (goal : CallGoal) (given : ℕ) (x : Ending Fault) (v w : Shown) → HasPursued goal given x v w → Shown
reached_run goal given x v w h = record v { trail = h.at; live = v.live + length h.entries; left = w.left; kept = kept_and (take (v.left - w.left) (noted goal.mode h.entries)) v.kept }

module _ (goal : CallGoal) (given : ℕ) (x : Ending Fault) (v w : Shown) (h : HasPursued goal given x v w) where
  abbrev s : RuleSystem
  s = system_of v.program h.further

  abbrev es : List Found
  es = h.entries

  abbrev z : Shown
  z = reached_run goal given x v w h

  legal : IsLegal (gp_means s) goal v.trail h.at es h.pursued.quiet given h.rest (Some x)
  legal = h.pursued.legal

  -- it is what is seen of the run
  view_is : view_of z ≡ view_of w
  view_is = sym (ap view_of h.now ∙ same_view (record z { left = v.left - (v.left - w.left) }) h.at ∙ ap (λ (n : ℕ). view_of (record z { left = n })) (sym (ap (λ (y : Shown). y.left) h.now)))

  used_now : v.left ≡ w.left + legal.items.0
  used_now = omega (arith, legal.items.1, h.left_before, h.left_behind)

  -- the graphs from before are behind those of the entries
  keeps_now : Keeps (view_of v) (view_of z)
  keeps_now =
      let many : (v.live + length es) - v.live ≡ length es = omega arith in
      record {
        marks = refl;
        live = omega arith;
        graphs = λ k.
            ap (λ (bs : List Graph). drop ((v.live + length es) - v.live) (h.at.graph ∷ bs)) (seen_open v.marks h.at.before k) ∙ ap (λ (n : ℕ). drop n (stack h.at)) many
            ∙ stands_behind s v.trail h.at es legal.at_all ∙ ap (λ (bs : List Graph). v.trail.graph ∷ bs) (sym (seen_open v.marks v.trail.before k));
      }

  spent_now : w.left ≡ 0 → (m : Found) → (gp_means s).judged goal h.at m ≡ applies → IsSpent goal.call (view_of z)
  spent_now l m j = let a = has_applying s goal h.well_formed h.at m j in (record { set = a.0; is_set = a.1; applies = a.2 }, l)

  faulty_now : (r : Fault) (m : Found) → (gp_means s).judged goal h.at m ≡ faulty r → HasFaulty goal.call r.rule r.kind (view_of z)
  faulty_now r m j =
      let a = fault_in (rules_of s) s.sets goal.call h.at.graph m r h.well_formed j in
      record { set = a.set; is_set = a.is_set; in_set = a.in_set; the_rule = a.the_rule; is_rule = a.is_rule; found = a.found; faulty = a.faulty }

  blocked_now : (set : List ℕ) → slice_get v.program.sets goal.call ≡ Some set → ((m : Found) → (gp_means s).judged goal h.at m ≡ neither) → Blocked (map rule_of_tree v.program.rules) set h.at.graph
  blocked_now set e none = blocked_in s h.well_formed goal set h.at e none

take_nothing : {X : Type 0} (n : ℕ) (xs : List X) → xs ≡ [] → take n xs ≡ []
take_nothing zero xs e = refl
take_nothing (suc n) [] e = refl
take_nothing (suc n) (x ∷ xs) e = absurd cc

-- ---- a goal of one match

abbrev one : ℕ → CallGoal
one c = record { call = c; mode = Once }

module _ (c given : ℕ) (x : Ending Fault) (v w : Shown) (h : HasPursued (one c) given x v w) where
  abbrev z1 : Shown
  z1 = reached_run (one c) given x v w h

  unmoved : h.entries ≡ [] → h.at ≡ v.trail
  unmoved e = (legal (one c) given x v w h).at_all ∙ ap (λ (l : List Found). reached (gp_means (system_of v.program h.further)) v.trail l) e

  unspent : h.entries ≡ [] → w.left ≡ v.left
  unspent e =
      let i = (legal (one c) given x v w h).items in
      let u : i.0 ≡ 0 = i.2 ∙ ap (λ (l : List Found). length l) e in
      omega (arith, used_now (one c) given x v w h)

  adds_none : h.entries ≡ [] → Adds (view_of v) (view_of z1) []
  adds_none e = record {
    program = refl;
    left = let l = unspent e in omega arith;
    live = let l = ap (λ (fs : List Found). length fs) e in omega arith;
    kept = kept_more v.kept (take (v.left - w.left) (noted Once h.entries)) ∙ ap (λ (l : List Item). kept_with (option_map items_of v.kept) (items_of l)) (take_nothing (v.left - w.left) (noted Once h.entries) (ap (λ (l : List Found). noted Once l) e));
  }

  stands_still : h.entries ≡ [] → MakesCall (Call c) (view_of v) (view_of z1) (At c h.at.graph)
  stands_still e = record {
    trace = [];
    makes = record { run = subst (λ (g : Graph). Run (program_of_tree v.program) (Call c) v.trail.graph [] [] (At c g)) (sym (ap (λ (t : Trail). t.graph) (unmoved e))) call_stands; adds = adds_none e };
  }

  fails_still : (set : List ℕ) → slice_get v.program.sets c ≡ Some set → h.entries ≡ [] → ((m : Found) → (gp_means (system_of v.program h.further)).judged (one c) h.at m ≡ neither) → MakesCall (Call c) (view_of v) (view_of z1) (Fails h.at.graph)
  fails_still set i e none = record {
    trace = [];
    makes = record {
      run = subst (λ (g : Graph). Run (program_of_tree v.program) (Call c) g [] [] (Fails h.at.graph)) (ap (λ (t : Trail). t.graph) (unmoved e)) (call_fails i (blocked_now (one c) given x v w h set i none));
      adds = adds_none e;
    };
  }

-- the one entry
stepped_once : (c given : ℕ) (x : Ending Fault) (v w : Shown) (h : HasPursued (one c) given x v w) (es : List Found) → h.entries ≡ es → length es ≡ 1 → MakesCall (Call c) (view_of v) (view_of (reached_run (one c) given x v w h)) (Gives h.at.graph)
stepped_once c given x v w h [] e l = absurd (omega arith)
stepped_once c given x v w h (m ∷ n ∷ ms) e l = absurd (omega arith)
stepped_once c given x v w h (m ∷ []) e l =
    let s = system_of v.program h.further in
    let k = legal (one c) given x v w h in
    let a : AllApply (gp_means s) (one c) v.trail (m ∷ []) = subst (λ (z : List Found). AllApply (gp_means s) (one c) v.trail z) e k.each_applies in
    let t : h.at ≡ advanced (rules_of s) v.trail m = k.at_all ∙ ap (λ (z : List Found). reached (gp_means s) v.trail z) e in
    let i = k.items in
    let u : i.0 ≡ 1 = i.2 ∙ ap (λ (z : List Found). length z) e in
    let g : v.left ≡ w.left + i.0 = used_now (one c) given x v w h in
    let d : v.left - w.left ≡ 1 = omega arith in
    record {
      trace = Stepped m ∷ [];
      makes = record {
        run = subst (λ (z : Graph). Run (program_of_tree v.program) (Call c) v.trail.graph [] (Stepped m ∷ []) (Gives z)) (sym (ap (λ (z : Trail). z.graph) t)) (called_once s (one c) h.well_formed (program_of_tree v.program) v.trail m refl refl a.0 h.numbered);
        adds = record {
          program = refl;
          left = omega arith;
          live = let b = ap (λ (z : List Found). length z) e in omega arith;
          kept = kept_more v.kept (take (v.left - w.left) (noted Once h.entries)) ∙ ap (λ (z : List Found). kept_with (option_map items_of v.kept) (items_of (take (v.left - w.left) (noted Once z)))) e ∙ ap (λ (z : ℕ). kept_with (option_map items_of v.kept) (items_of (take z (noted Once (m ∷ []))))) d;
        };
      };
    }

no_entry : (c given : ℕ) (x : Ending Fault) (v w : Shown) (h : HasPursued (one c) given x v w) → (Some x ≡ Some ending.Committed → ⊥) → h.entries ≡ []
no_entry c given x v w h n =
    elim ((legal (one c) given x v w h).one_at_most refl) [
      | inl e ↦ e
      | inr e ↦ absurd (n e)
    ]

called_reached : (c given : ℕ) (x : Ending Fault) (v w : Shown) (h : HasPursued (one c) given x v w) → c < length v.program.sets → given ≡ v.left → HasCalled c (called_of x) (view_of v) (view_of (reached_run (one c) given x v w h))
called_reached c given ending.Committed v w h l all_left = (stepped_once c given ending.Committed v w h h.entries refl (legal (one c) given ending.Committed v w h).ended.1, keeps_now (one c) given ending.Committed v w h)
called_reached c given ending.Blocked v w h l all_left =
    let set = element v.program.sets c l in
    (fails_still c given ending.Blocked v w h set.0 set.1 (no_entry c given ending.Blocked v w h (λ e. cc)) (legal (one c) given ending.Blocked v w h).ended, keeps_now (one c) given ending.Blocked v w h)
called_reached c given ending.Bound v w h l all_left =
    let z = (legal (one c) given ending.Bound v w h).ended in (
      stands_still c given ending.Bound v w h (no_entry c given ending.Bound v w h (λ e. cc)),
      elim z.1 [
        | inl q ↦ absurd (let e : Once ≡ Saturate = q.0 in cc)
        | inr q ↦ spent_now (one c) given ending.Bound v w h (omega (arith, z.0, h.left_before, h.left_behind)) q.0 q.1
      ],
    )
called_reached c given (ending.Fault r) v w h l all_left =
    let z = (legal (one c) given (ending.Fault r) v w h).ended in
    (stands_still c given (ending.Fault r) v w h (no_entry c given (ending.Fault r) v w h (λ e. cc)), faulty_now (one c) given (ending.Fault r) v w h r z.0 z.1)
called_reached c given ending.Stopped v w h l all_left = tt

pub called_so : (c given : ℕ) (x : Ending Fault) (v w : Shown) → c < length v.program.sets → given ≡ v.left → HasPursued (one c) given x v w → HasCalled c (called_of x) (view_of v) (view_of w)
called_so c given x v w l all_left h = subst (HasCalled c (called_of x) (view_of v)) (view_is (one c) given x v w h) (called_reached c given x v w h l all_left)

-- ---- a goal whose matches are taken until none is left, behind its first turn

abbrev all : ℕ → CallGoal
all c = record { call = c; mode = Saturate }

counted_turns : (es : List Found) → counted (items_of (turns_first es)) ≡ 2 * length es
counted_turns [] = refl
counted_turns (m ∷ ms) = let l = counted_turns ms in let a = counted-append (Turned ∷ Stepped m ∷ []) (items_of (turns_first ms)) in omega arith

module _ (c given : ℕ) (x : Ending Fault) (u : View) (v w : Shown) (h : HasPursued (all c) given x v w) (made : TurnMade u (view_of v)) where
  abbrev s2 : RuleSystem
  s2 = system_of v.program h.further

  abbrev z2 : Shown
  z2 = reached_run (all c) given x v w h

  -- where the last turn began
  abbrev mid : View
  mid = record (view_of z2) { program = u.program; left = w.left + 1; kept = kept_with u.kept (items_of (turns_first h.entries)) }

  goes_so_far : SoFar u.program (Call c) u.graph [] (items_of (turns_first h.entries)) h.at.graph
  goes_so_far =
      let k = legal (all c) given x v w h in
      let f = so_far_on s2 (all c) h.well_formed (program_of_tree v.program) v.trail.graph [] v.trail h.entries refl refl at_first k.each_applies h.numbered in
      let g : SoFar (program_of_tree v.program) (Call c) v.trail.graph [] (items_of (turns_first h.entries)) h.at.graph = subst (λ (t : Trail). SoFar (program_of_tree v.program) (Call c) v.trail.graph [] (items_of (turns_first h.entries)) t.graph) (sym k.at_all) f in
      let i : SoFar u.program (Call c) v.trail.graph [] (items_of (turns_first h.entries)) h.at.graph = subst (λ (p : Program). SoFar p (Call c) v.trail.graph [] (items_of (turns_first h.entries)) h.at.graph) made.adds.program g in
      subst (λ (y : Graph). SoFar u.program (Call c) y [] (items_of (turns_first h.entries)) h.at.graph) made.graph i

  -- the items are those behind the turn, where they are kept
  kept_now : option_map items_of z2.kept ≡ kept_with u.kept (Turned ∷ items_of (take (v.left - w.left) (noted Saturate h.entries)))
  kept_now =
      let more : List meant.Item = items_of (take (v.left - w.left) (noted Saturate h.entries)) in
      kept_more v.kept (take (v.left - w.left) (noted Saturate h.entries)) ∙ ap (λ (o : Option (List meant.Item)). kept_with o more) made.adds.kept ∙ sym (kept_with-append u.kept (Turned ∷ []) more)

  -- each entry is one live step more
  live_now : z2.live ≡ live_with u.live (items_of (turns_first h.entries))
  live_now =
      let b : v.live ≡ u.live = made.adds.live in
      omega (arith, live_turns u.live h.entries)

  -- all turns are made
  full_kept : v.left - w.left ≡ 2 * length h.entries → option_map items_of z2.kept ≡ kept_with (kept_with u.kept (items_of (turns_first h.entries))) (Turned ∷ [])
  full_kept e =
      let over : items_of (items.Turn ∷ noted Saturate h.entries) ≡ items_of (turns_first h.entries) ++ Turned ∷ [] = ap items_of (turned_over h.entries) ∙ items-append (turns_first h.entries) (items.Turn ∷ []) in
      kept_now
      ∙ ap (λ (l : List Item). kept_with u.kept (Turned ∷ items_of l)) (all_taken h.entries (v.left - w.left) e)
      ∙ ap (λ (l : List meant.Item). kept_with u.kept l) over
      ∙ kept_with-append u.kept (items_of (turns_first h.entries)) (Turned ∷ [])

  full_turns : v.left ≡ w.left + 2 * length h.entries → Turns c u mid
  full_turns e = record {
    trace = items_of (turns_first h.entries);
    adds = record { program = refl; left = let a = counted_turns h.entries in let b : v.left + 1 ≡ u.left = made.adds.left in omega arith; live = live_now; kept = refl };
    keeps = let k = keeps_now (all c) given x v w h in keeps_keeps u (view_of v) mid made.keeps (record { marks = k.marks; live = k.live; graphs = k.graphs });
    so_far = goes_so_far;
  }

  last_turn : v.left ≡ w.left + 2 * length h.entries → TurnMade mid (view_of z2)
  last_turn e = record {
    adds = record { program = made.adds.program; left = omega arith; live = refl; kept = full_kept (omega arith) };
    graph = refl;
    keeps = keeps_still mid (view_of z2) refl refl refl (λ k. refl);
  }

  -- the turn after the last step is missing
  but_kept : (m : Found) (ms : List Found) → h.entries ≡ m ∷ ms → (v.left - w.left) + 1 ≡ 2 * length (m ∷ ms) → option_map items_of z2.kept ≡ kept_with u.kept (items_of (turns_first h.entries))
  but_kept m ms e l =
      kept_now
      ∙ ap (λ (y : List Found). kept_with u.kept (Turned ∷ items_of (take (v.left - w.left) (noted Saturate y)))) e
      ∙ ap (λ (y : List Item). kept_with u.kept (Turned ∷ items_of y)) (but_taken m ms (v.left - w.left) l)
      ∙ ap (λ (y : List Found). kept_with u.kept (items_of (turns_first y))) (sym e)

  but_turns : (es : List Found) → h.entries ≡ es → v.left + 1 ≡ w.left + 2 * length es → Turns c u (view_of z2)
  but_turns [] e l = absurd (let g = used_now (all c) given x v w h in omega arith)
  but_turns (m ∷ ms) e l = record {
    trace = items_of (turns_first h.entries);
    adds = record {
      program = made.adds.program;
      left = let a = counted_turns h.entries in let b : v.left + 1 ≡ u.left = made.adds.left in let d = ap (λ (y : List Found). length y) e in omega arith;
      live = live_now;
      kept = but_kept m ms e (omega arith);
    };
    keeps = keeps_keeps u (view_of v) (view_of z2) made.keeps (keeps_now (all c) given x v w h);
    so_far = goes_so_far;
  }

  -- what the last call of the loop came to
  call_stands_now : MakesCall (Call c) (view_of z2) (view_of z2) (At c h.at.graph)
  call_stands_now = record { trace = []; makes = record { run = call_stands; adds = adds-nothing (view_of z2) } }

  call_fails_now : (set : List ℕ) → slice_get v.program.sets c ≡ Some set → ((m : Found) → (gp_means s2).judged (all c) h.at m ≡ neither) → HasCalled c called.Blocked (view_of z2) (view_of z2)
  call_fails_now set i none = (record { trace = []; makes = record { run = call_fails i (blocked_now (all c) given x v w h set i none); adds = adds-nothing (view_of z2) } }, keeps_nothing (view_of z2))

-- how many items were used
used_all : (c given : ℕ) (x : Ending Fault) (v w : Shown) (h : HasPursued (all c) given x v w) → (Some x ≡ Some ending.Bound → ⊥) → v.left ≡ w.left + 2 * length h.entries
used_all c given x v w h n =
    let i = (legal (all c) given x v w h).items in
    let g : v.left ≡ w.left + i.0 = used_now (all c) given x v w h in
    elim i.2 [
      | inl e ↦ omega arith
      | inr e ↦ absurd (n e.1)
    ]

pub blocked_so : (c given : ℕ) (r : Repeated) (u : View) (v w : Shown) (y : View) → c < length v.program.sets → HasTurned turned.Made u (view_of v) → HasPursued (all c) given ending.Blocked v w → HasEnded r (view_of w) y → HasRepeated c r u y
blocked_so c given r u v w y l made h e =
    let z = reached_run (all c) given ending.Blocked v w h in
    let set = element v.program.sets c l in
    let used = used_all c given ending.Blocked v w h (λ q. cc) in
    turns_end c r u (mid c given ending.Blocked u v w h made) (view_of z) (view_of z) y (full_turns c given ending.Blocked u v w h made used) (last_turn c given ending.Blocked u v w h made used)
    (call_fails_now c given ending.Blocked u v w h made set.0 set.1 (legal (all c) given ending.Blocked v w h).ended) (subst (λ (b : View). HasEnded r b y) (sym (view_is (all c) given ending.Blocked v w h)) e) refl

pub faulty_so : (c given : ℕ) (f : Fault) (u : View) (v w : Shown) → HasTurned turned.Made u (view_of v) → HasPursued (all c) given (ending.Fault f) v w → HasRepeated c (repeated.Fault f.rule f.kind) u (view_of w)
faulty_so c given f u v w made h =
    let z = reached_run (all c) given (ending.Fault f) v w h in
    let q = (legal (all c) given (ending.Fault f) v w h).ended in
    let used = used_all c given (ending.Fault f) v w h (λ q. cc) in
    subst (HasRepeated c (repeated.Fault f.rule f.kind) u) (view_is (all c) given (ending.Fault f) v w h)
    (turns_faulty c f.rule f.kind u (mid c given (ending.Fault f) u v w h made) (view_of z) (view_of z) (full_turns c given (ending.Fault f) u v w h made used) (last_turn c given (ending.Fault f) u v w h made used)
    (call_stands_now c given (ending.Fault f) u v w h made, faulty_now (all c) given (ending.Fault f) v w h f q.0 q.1))

bound_reached : (c given : ℕ) (u : View) (v w : Shown) → HasTurned turned.Made u (view_of v) → (h : HasPursued (all c) given ending.Bound v w) → w.left ≡ 0 → HasRepeated c repeated.Bound u (view_of (reached_run (all c) given ending.Bound v w h))
bound_reached c given u v w made h none =
    let y = reached_run (all c) given ending.Bound v w h in
    let k = legal (all c) given ending.Bound v w h in
    let z = k.ended in
    let i = k.items in
    let g : v.left ≡ w.left + i.0 = used_now (all c) given ending.Bound v w h in
    let f : given ≡ h.rest + i.0 = i.1 in
    elim i.2 [
      | inl e ↦ (
          let used : v.left ≡ w.left + 2 * length h.entries = omega arith in
          elim z.1 [
            | inl q ↦ absurd (let d : given + 1 ≡ 2 * length h.entries = q.1 in let b = z.0 in omega arith)
            | inr q ↦ turns_spent c u (mid c given ending.Bound u v w h made) (view_of y) (view_of y) (full_turns c given ending.Bound u v w h made used) (last_turn c given ending.Bound u v w h made used)
                (call_stands_now c given ending.Bound u v w h made, spent_now (all c) given ending.Bound v w h none q.0 q.1)
          ]
          )
      | inr e ↦ turns_bound c u (view_of y) (view_of y) (but_turns c given ending.Bound u v w h made h.entries refl (let d : i.0 + 1 ≡ 2 * length h.entries = e.0 in omega arith)) (refl, none)
    ]

pub bound_so : (c given : ℕ) (u : View) (v w : Shown) → HasTurned turned.Made u (view_of v) → HasPursued (all c) given ending.Bound v w → w.left ≡ 0 → HasRepeated c repeated.Bound u (view_of w)
bound_so c given u v w made h none = subst (HasRepeated c repeated.Bound u) (view_is (all c) given ending.Bound v w h) (bound_reached c given u v w made h none)

-- where an odd number of items was given and used, the turn behind the last step is due
pub leased_so : (c given lease : ℕ) (u : View) (v w : Shown) → HasTurned turned.Made u (view_of v) → HasPursued (all c) given ending.Bound v w → given ≡ min v.left lease → lease % 2 ≡ 1 → 0 < w.left → GoesOn c u (view_of w) × (w.left < v.left)
leased_so c given lease u v w made h least odd some =
    let y = reached_run (all c) given ending.Bound v w h in
    let k = legal (all c) given ending.Bound v w h in
    let i = k.items in
    let g : v.left ≡ w.left + i.0 = used_now (all c) given ending.Bound v w h in
    let f : given ≡ h.rest + i.0 = i.1 in
    let none : h.rest ≡ 0 = k.ended.0 in
    let before = h.left_before in
    let behind = h.left_behind in
    let all_given : given ≡ lease = omega arith in
    elim i.2 [
      | inl e ↦ absurd (let d : i.0 ≡ 2 * length h.entries = e in omega arith)
      | inr e ↦ (
          let d : i.0 + 1 ≡ 2 * length h.entries = e.0 in
          (subst (GoesOn c u) (view_is (all c) given ending.Bound v w h) (goes_by c u (view_of y) (but_turns c given ending.Bound u v w h made h.entries refl (omega arith))), omega arith)
          )
    ]

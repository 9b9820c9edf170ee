-- What a session tells after each call.
use Rattle.std.proofs.Common.{◌≡◌, ℕ, zero, suc, ◌+◌, ◌-◌, ◌<◌, ◌≤◌, ◌%◌, List, [], ◌∷◌, ◌++◌, map, length, take, drop, slice_get, slice_index, slice_index_or, Contains, All, Option, Some, None, refl, sym, ap, subst, ◌∙◌, arith, add-one}
use Rattle.std.specs.Option.{option_map, option_map_or}
use Rattle.std.proofs.Math.Nat.{mod-one}
use Rattle.std.proofs.Math.Seq.{take-suc}
use Rattle.std.proofs.lemmas.Option.{get_or_from_slice_get, slice_get_within, slice_get-get_or}
use Rattle.std.proofs.lemmas.List.Elements.{All-push}
use Rattle.std.proofs.lemmas.List.{map-append, length-map}
use Rattle.gp_values.specs.Graph.{Graph, IsGraph}
use Rattle.gp_syntax.specs.declared.command.ProgramParts.{ProgramParts}
use Rattle.gp_syntax.specs.declared.rule.RuleParts.{RuleParts}
use Rattle.gp_syntax.specs.Scoped.{IsScoped}
use Rattle.gp_syntax.specs.declared.found.Item.{Item}
use Rattle.gp_syntax.specs.declared.found.Item.TheVariants as items
use Rattle.gp_syntax.specs.declared.kinds.NumberKind.{NumberKind}
use Rattle.gp_syntax.specs.Assigned.{PartialAssignment, assigned_of}
use Rattle.gp_syntax.specs.Rule.{Rule, Found}
use Rattle.gp_syntax.specs.Share.{first_node, Barren}
use Rattle.gp_syntax.specs.Step.{Applies, Step, CallsTo, Blocked}
use Rattle.gp_syntax.specs.Run as meant
use Rattle.gp_syntax.specs.Run.{Program, Call, Stepped, Back, Fails, At, Run, call_steps, call_fails, call_stands}
use Rattle.gp_syntax.specs.Tree.{rule_of_tree, program_of_tree, item_of}
use Rattle.gp_syntax.specs.WellFormed.{IsWellFormed}
use Rattle.gp_step.proofs.Afters.{applying_steps}
use Rattle.gp_journal.specs.Trail.{Trail, led_by, advanced, back_by}
use Rattle.gp_journal.specs.Leads.{AppliesWith}
use Rattle.gp_journal.specs.Journal.{Kept, items_of}
use Rattle.gp_run.specs.Engine.{View, graphs, kept_with, Adds, Keeps, MakesCall, IsSpent, HasFaulty, HasCalled, TurnMade, HasTurned, HasMarked, HasClosed, CanTakeBack, TakesBack}
use Rattle.gp_run.specs.Ended.{HasEnded}
use Rattle.gp_run.specs.declared.engine.Called.TheVariants as called
use Rattle.gp_run.specs.declared.engine.Turned.TheVariants as turned
use Rattle.gp_run.specs.declared.engine.Repeated.TheVariants as repeated
use Rattle.gp_run.proofs.Leads.{adds-nothing, keeps_still, keeps_nothing}
use Rattle.gp_search.specs.declared.sought.Sought.{Sought}
use Rattle.gp_search.specs.declared.sought.Sought.TheVariants as answers
use Rattle.gp_sets.specs.Sought.{HasSought, IsOfSet}
use Rattle.gp_system.specs.inside.Viewed.{Shown, view_of, seen, settled, stepped, kept_and, items_in, HasSoughtCall, AppliesForCall}
use Rattle.gp_system.proofs.Marks.{goes_back}

abbrev pub shown : ProgramParts → Trail → ℕ → ℕ → ℕ → Option (List Item) → Shown
shown p t live left marks kept = record { program = p; trail = t; live = live; left = left; marks = marks; kept = kept }

-- ---- what is forgotten is not seen

pub settled_graph : (n : ℕ) (t : Trail) → (settled n t).graph ≡ t.graph
settled_graph zero t = refl
settled_graph (suc n) t = refl

pub settled_seen : (n : ℕ) (t : Trail) → seen n (settled n t).before ≡ seen n t.before
settled_seen zero t = refl
settled_seen (suc n) t = refl

pub seen_open : (n : ℕ) (bs : List Graph) → 0 < n → seen n bs ≡ bs
seen_open zero bs h = absurd (omega arith)
seen_open (suc n) bs h = refl

-- the view of a run is the same where what no mark needs is forgotten
pub same_view : (s : Shown) (t : Trail) → view_of (record s { trail = settled s.marks t }) ≡ view_of (record s { trail = t })
same_view s t =
    ap (λ (g : Graph). record (view_of (record s { trail = settled s.marks t })) { graph = g }) (settled_graph s.marks t)
    ∙ ap (λ (bs : List Graph). record (view_of (record s { trail = t })) { before = bs }) (settled_seen s.marks t)

-- ---- items, where they are kept

-- items behind those that are kept, as an engine tells them
pub kept_more : (kept : Option (List Item)) (more : List Item) → option_map items_of (kept_and more kept) ≡ kept_with (option_map items_of kept) (items_of more)
kept_more None more = refl
kept_more (Some is) more = ap (λ (l : List meant.Item). Some l) (map-append item_of is more)

pub one_kept : (o : Option Kept) (f : Kept → Kept) (more : List Item) → ((k : Kept) → (f k).items ≡ k.items ++ more) → items_in (option_map f o) ≡ kept_and more (items_in o)
one_kept None f more h = refl
one_kept (Some k) f more h = ap (λ (l : List Item). Some l) (h k)

pub same_kept : (o : Option Kept) (f : Kept → Kept) → ((k : Kept) → (f k).items ≡ k.items) → items_in (option_map f o) ≡ items_in o
same_kept None f h = refl
same_kept (Some k) f h = ap (λ (l : List Item). Some l) (h k)

-- ---- calls

pub stands_here : (c : ℕ) (s : Shown) → MakesCall (Call c) (view_of s) (view_of s) (At c s.trail.graph)
stands_here c s = record { trace = []; makes = record { run = call_stands; adds = adds-nothing (view_of s) } }

pub spent_here : (c : ℕ) (s : Shown) (m : Found) → AppliesForCall (program_of_tree s.program) c s.trail.graph m → s.left ≡ 0 → IsSpent c (view_of s)
spent_here c s m a e = (
  record {
    set = a.set;
    is_set = a.is_set;
    applies = record { found = m; in_set = a.found.in_set; rule = a.found.rule; is_rule = a.found.is_rule; applies = a.found.holds };
  },
  e,
)

well_formed_at : (rules : List Rule) (i : ℕ) (r : Rule) → All IsWellFormed rules → slice_get rules i ≡ Some r → IsWellFormed r
well_formed_at rules i r w e = subst IsWellFormed (get_or_from_slice_get rules i r r e) (w i r (slice_get_within rules i r e))

steps_on : (rules : List Rule) (set : List ℕ) (g : Graph) (m : Found) → All IsWellFormed rules → IsGraph g → IsOfSet rules set 1 0 m (λ r. Applies r g m) → CallsTo rules set g m (led_by (slice_get rules m.rule) g m)
steps_on rules set g m w whole a = record {
  in_set = a.in_set;
  rule = a.rule;
  is_rule = a.is_rule;
  step = subst (λ (o : Option Rule). Step a.rule g m (led_by o g m)) (sym a.is_rule) (applying_steps a.rule g m (well_formed_at rules m.rule a.rule w a.is_rule) whole a.holds);
}

-- where the step that a run has made is behind it
abbrev after_step : Shown → Found → Shown
after_step s m = record s { trail = advanced (map rule_of_tree s.program.rules) s.trail m; live = s.live + 1; left = s.left - 1; kept = kept_and (items.Step m ∷ []) s.kept }

step_adds : (s : Shown) (m : Found) → 0 < s.left → Adds (view_of s) (view_of (after_step s m)) (Stepped m ∷ [])
step_adds s m pos = record { program = refl; left = omega arith; live = refl; kept = kept_more s.kept (items.Step m ∷ []) }

-- one step more stands on what was there
step_keeps : (s : Shown) (m : Found) → Keeps (view_of s) (view_of (after_step s m))
step_keeps s m =
    let w = view_of (after_step s m) in
    let one : (s.live + 1) - s.live ≡ 1 = omega arith in
    record {
      marks = refl;
      live = omega arith;
      graphs = λ h.
          ap (λ (k : ℕ). drop k (graphs w)) one ∙ seen_open s.marks (s.trail.graph ∷ s.trail.before) h
          ∙ ap (λ (bs : List Graph). s.trail.graph ∷ bs) (sym (seen_open s.marks s.trail.before h));
    }

pub stepped_here : (c : ℕ) (s : Shown) (m : Found) → All IsWellFormed (map rule_of_tree s.program.rules) → IsGraph s.trail.graph → AppliesForCall (program_of_tree s.program) c s.trail.graph m → 0 < s.left → HasCalled c called.Stepped (view_of s) (view_of (stepped s m))
stepped_here c s m w whole a pos =
    subst (HasCalled c called.Stepped (view_of s)) (sym (same_view (after_step s m) (advanced (map rule_of_tree s.program.rules) s.trail m))) (
      record {
        trace = Stepped m ∷ [];
        makes = record { run = call_steps a.is_set (steps_on (map rule_of_tree s.program.rules) a.set s.trail.graph m w whole a.found); adds = step_adds s m pos };
      },
      step_keeps s m,
    )

-- the same of what a session shows then
pub step_here : (c : ℕ) (s w : Shown) (m : Found) → All IsWellFormed (map rule_of_tree s.program.rules) → IsGraph s.trail.graph → AppliesForCall (program_of_tree s.program) c s.trail.graph m → 0 < s.left → w ≡ stepped s m → HasCalled c called.Stepped (view_of s) (view_of w)
step_here c s w m well whole a pos e = subst (λ (x : Shown). HasCalled c called.Stepped (view_of s) (view_of x)) (sym e) (stepped_here c s m well whole a pos)

pub applies_for : (program : Program) (c : ℕ) (g : Graph) (m : Found) (p : PartialAssignment) → HasSoughtCall program c g (answers.Applies m p) → AppliesForCall program c g m
applies_for program c g m p a = record {
  set = a.set;
  is_set = a.is_set;
  found = record { in_set = a.sought.in_set; rule = a.sought.rule; is_rule = a.sought.is_rule; in_share = a.sought.in_share; holds = (assigned_of p, a.sought.holds.0) };
}

pub applies_told : (program : Program) (c : ℕ) (g : Graph) (m : Found) (p : PartialAssignment) → HasSoughtCall program c g (answers.Applies m p) → AppliesWith program.rules g m p
applies_told program c g m p a = record { rule = a.sought.rule; is_rule = a.sought.is_rule; applies = a.sought.holds.0; told = a.sought.holds.1 }

-- ---- one share is all

mod_one : (n : ℕ) → n % 1 ≡ 0
mod_one n = mod-one n

share_one : (o : Option ℕ) (xs : List ℕ) → option_map_or (λ i. slice_index xs i % 1) o 0 ≡ 0
share_one None xs = refl
share_one (Some i) xs = mod_one (slice_index xs i)

blocked : (rules : List Rule) (set : List ℕ) (g : Graph) → Barren rules set 1 0 g → Blocked rules set g
blocked rules set g b = record {
  none_applies = λ i r m c e a. b.none_applies i r m c e (share_one (first_node r) m.nodes) a;
  none_faulty = λ i r m kind c e a. b.none_faulty i r m kind c e (share_one (first_node r) m.nodes) a;
}

pub blocked_here : (c : ℕ) (s : Shown) → HasSoughtCall (program_of_tree s.program) c s.trail.graph answers.Barren → HasCalled c called.Blocked (view_of s) (view_of s)
blocked_here c s a = (record { trace = []; makes = record { run = call_fails a.is_set (blocked (program_of_tree s.program).rules a.set s.trail.graph a.sought); adds = adds-nothing (view_of s) } }, keeps_nothing (view_of s))

pub faulty_here : (c k : ℕ) (s : Shown) (m : Found) (kind : NumberKind) → k ≡ m.rule → HasSoughtCall (program_of_tree s.program) c s.trail.graph (answers.Faulty m kind) → MakesCall (Call c) (view_of s) (view_of s) (At c s.trail.graph) × HasFaulty c k kind (view_of s)
faulty_here c k s m kind e a = (
  stands_here c s,
  subst (λ (i : ℕ). HasFaulty c i kind (view_of s)) (sym e)
      (record { set = a.set; is_set = a.is_set; in_set = a.sought.0.in_set; the_rule = a.sought.0.rule; is_rule = a.sought.0.is_rule; found = m; faulty = a.sought.0.holds }),
)

-- ---- turns

turn_made : (s : Shown) (kept : Option (List Item)) → 0 < s.left → kept ≡ kept_and (items.Turn ∷ []) s.kept → TurnMade (view_of s) (view_of (record s { left = s.left - 1; kept = kept }))
turn_made s kept pos e =
    let w = view_of (record s { left = s.left - 1; kept = kept }) in
    record {
      adds = record { program = refl; left = omega arith; live = refl; kept = ap (option_map items_of) e ∙ kept_more s.kept (items.Turn ∷ []) };
      graph = refl;
      keeps = keeps_still (view_of s) w refl refl refl (λ h. refl);
    }

pub turned_here : (s : Shown) (p : ProgramParts) (t : Trail) (live left marks : ℕ) (kept now : Option (List Item)) → shown p t live left marks kept ≡ s → 0 < left → now ≡ kept_and (items.Turn ∷ []) kept → HasTurned turned.Made (view_of s) (view_of (shown p t live (left - 1) marks now))
turned_here s p t live left marks kept now e pos f = subst (λ (x : Shown). HasTurned turned.Made (view_of x) (view_of (shown p t live (left - 1) marks now))) e (turn_made (shown p t live left marks kept) now pos f)

turn_ended : (s : Shown) (kept : Option (List Item)) → kept ≡ kept_and (items.Back 0 ∷ []) s.kept → HasEnded repeated.Ended (view_of s) (view_of (record s { kept = kept }))
turn_ended s kept e =
    let w = view_of (record s { kept = kept }) in (
      record { program = refl; left = omega arith; live = omega arith; kept = ap (option_map items_of) e ∙ kept_more s.kept (items.Back 0 ∷ []) },
      refl,
      keeps_still (view_of s) w refl refl refl (λ h. refl),
    )

pub ended_here : (s : Shown) (p : ProgramParts) (t : Trail) (live left marks : ℕ) (kept now : Option (List Item)) → shown p t live left marks kept ≡ s → now ≡ kept_and (items.Back 0 ∷ []) kept → HasEnded repeated.Ended (view_of s) (view_of (shown p t live left marks now))
ended_here s p t live left marks kept now e f = subst (λ (x : Shown). HasEnded repeated.Ended (view_of x) (view_of (shown p t live left marks now))) e (turn_ended (shown p t live left marks kept) now f)

-- ---- marks, and taking back

more_seen : (m n : ℕ) (bs : List Graph) → 0 < m → 0 < n → seen n bs ≡ seen m bs
more_seen m n bs h k = seen_open n bs k ∙ sym (seen_open m bs h)

marked : (s : Shown) (n : ℕ) (kept : Option (List Item)) → n ≡ s.live → kept ≡ s.kept → HasMarked n (view_of s) (view_of (record s { marks = s.marks + 1; kept = kept }))
marked s n kept e f = record {
  live_steps = e;
  marks = refl;
  stays = record { program = refl; graph = refl; live = refl; left = refl; kept = ap (option_map items_of) f; before = λ h k. more_seen s.marks (s.marks + 1) s.trail.before h k };
}

pub marked_here : (s : Shown) (p : ProgramParts) (t : Trail) (live left marks n : ℕ) (kept now : Option (List Item)) → shown p t live left marks kept ≡ s → n ≡ marks + 1 → now ≡ kept → HasMarked live (view_of s) (view_of (shown p t live left n now))
marked_here s p t live left marks n kept now e f g =
    subst (λ (x : Shown). HasMarked live (view_of x) (view_of (shown p t live left n now))) e
    (subst (λ (k : ℕ). HasMarked live (view_of (shown p t live left marks kept)) (view_of (shown p t live left k now))) (sym f) (marked (shown p t live left marks kept) live now refl g))

-- one mark less, and what is forgotten with it
one_less : (s : Shown) (kept : Option (List Item)) → 0 < s.marks → kept ≡ s.kept → HasClosed (view_of s) (view_of (record s { marks = s.marks - 1; kept = kept }))
one_less s kept some e = record {
  marks = omega arith;
  stays = record { program = refl; graph = refl; live = refl; left = refl; kept = ap (option_map items_of) e; before = λ h k. more_seen s.marks (s.marks - 1) s.trail.before h k };
}

pub closes : (s : Shown) (p : ProgramParts) (t u : Trail) (live left marks : ℕ) (kept now : Option (List Item)) → shown p t live left marks kept ≡ s → 0 < marks → u ≡ settled (marks - 1) t → now ≡ kept → HasClosed (view_of s) (view_of (shown p u live left (marks - 1) now))
closes s p t u live left marks kept now e some f g =
    subst (λ (x : Trail). HasClosed (view_of s) (view_of (shown p x live left (marks - 1) now))) (sym f)
    (subst (HasClosed (view_of s)) (sym (same_view (shown p t live left (marks - 1) now) t))
    (subst (λ (x : Shown). HasClosed (view_of x) (view_of (shown p t live left (marks - 1) now))) e (one_less (shown p t live left marks kept) now some g)))

-- the steps that are to be taken back are there
pub deep_enough : (s : Shown) (mark : ℕ) → CanTakeBack mark (view_of s) → s.live - mark ≤ length s.trail.before
deep_enough s mark can = let e = ap length (seen_open s.marks s.trail.before can.open_mark) in let b = can.before in omega arith

back_here : (s : Shown) (mark : ℕ) (kept : Option (List Item)) → CanTakeBack mark (view_of s) → kept ≡ kept_and (items.Back (s.live - mark) ∷ []) s.kept
    → TakesBack mark (view_of s) (view_of (record s { trail = back_by (s.live - mark) s.trail; live = mark; marks = s.marks - 1; kept = kept }))
back_here s mark kept can e =
    let u = back_by (s.live - mark) s.trail in
    let low = can.live in
    record {
      adds = record { program = refl; left = omega arith; live = omega arith; kept = ap (option_map items_of) e ∙ kept_more s.kept (items.Back (s.live - mark) ∷ []) };
      marks = omega (arith, can.open_mark);
      graph = λ h hs there.
          let down = goes_back (s.live - mark) s.trail h hs (ap (λ (bs : List Graph). drop (s.live - mark) (s.trail.graph ∷ bs)) (sym (seen_open s.marks s.trail.before can.open_mark)) ∙ there) in
          (down.0, λ k. seen_open (s.marks - 1) u.before k ∙ down.1);
    }

pub backs : (s : Shown) (p : ProgramParts) (t u w : Trail) (live left marks mark : ℕ) (kept now : Option (List Item)) → shown p t live left marks kept ≡ s → CanTakeBack mark (view_of s) → u ≡ back_by (live - mark) t → w ≡ settled (marks - 1) u → now ≡ kept_and (items.Back (live - mark) ∷ []) kept
    → TakesBack mark (view_of s) (view_of (shown p w mark left (marks - 1) now))
backs s p t u w live left marks mark kept now e can f g h =
    let to : w ≡ settled (marks - 1) (back_by (live - mark) t) = g ∙ ap (settled (marks - 1)) f in
    subst (λ (x : Trail). TakesBack mark (view_of s) (view_of (shown p x mark left (marks - 1) now))) (sym to)
    (subst (TakesBack mark (view_of s)) (sym (same_view (shown p t mark left (marks - 1) now) (back_by (live - mark) t)))
    (subst (λ (x : Shown). TakesBack mark (view_of x) (view_of (shown p (back_by (live - mark) t) mark left (marks - 1) now))) e
    (back_here (shown p t live left marks kept) mark now (subst (λ (x : Shown). CanTakeBack mark (view_of x)) (sym e) can) h)))

-- ---- the set of a call

pub set_here : (p q : ProgramParts) (sets : List (List ℕ)) (x set : List ℕ) (c : ℕ) → q ≡ p → sets ≡ q.sets → x ≡ slice_index_or sets c x → set ≡ x → c < length p.sets → slice_get p.sets c ≡ Some set
set_here p q sets x set c e f g h l =
    let same : sets ≡ p.sets = f ∙ ap (λ (z : ProgramParts). z.sets) e in
    slice_get-get_or p.sets c x l ∙ ap (λ (y : List ℕ). Some y) (ap (λ (zs : List (List ℕ)). slice_index_or zs c x) (sym same) ∙ sym g ∙ sym h)

same_default : (set : List ℕ) (k d : ℕ) → k < length set → slice_index_or set k d ≡ slice_index_or set k (slice_index_or set k d)
same_default set k d l = sym (get_or_from_slice_get set k (slice_index_or set k d) (slice_index_or set k d) (slice_get-get_or set k d l))

pub set_within : (p q : ProgramParts) (set : List ℕ) (rules : List RuleParts) (c : ℕ) → q ≡ p → rules ≡ q.rules → IsScoped (program_of_tree q) → slice_get p.sets c ≡ Some set → All (λ k. k < length rules) set
set_within p q set rules c e f w h k d l =
    let there : Contains q.sets set = subst (λ (z : ProgramParts). Contains z.sets set) (sym e) (c, slice_get_within p.sets c set h, get_or_from_slice_get p.sets c set set h) in
    let one : slice_index_or set k (slice_index_or set k d) ≡ slice_index_or set k d = sym (same_default set k d l) in
    let low : slice_index_or set k d < length (map rule_of_tree q.rules) = w.rules set (slice_index_or set k d) there (k, l, one) in
    let long = length-map q.rules rule_of_tree in
    let same : length rules ≡ length q.rules = ap (λ (rs : List RuleParts). length rs) f in
    omega arith

pub sought_here : (p q : ProgramParts) (s : Shown) (t : Trail) (set : List ℕ) (rules : List RuleParts) (c : ℕ) (g : Graph) (x : Sought) → p ≡ s.program → t ≡ s.trail → q ≡ p → rules ≡ q.rules → slice_get p.sets c ≡ Some set → g ≡ t.graph
    → HasSought (map rule_of_tree rules) set 1 0 g x → HasSoughtCall (program_of_tree s.program) c s.trail.graph x
sought_here p q s t set rules c g x e d f h i k w =
    subst (λ (y : ProgramParts). HasSoughtCall (program_of_tree y) c s.trail.graph x) e
    (subst (λ (y : Trail). HasSoughtCall (program_of_tree p) c y.graph x) d
    (record {
      set = set;
      is_set = i;
      sought = subst (λ (z : Graph). HasSought (map rule_of_tree p.rules) set 1 0 z x) k (subst (λ (rs : List RuleParts). HasSought (map rule_of_tree rs) set 1 0 g x) (h ∙ ap (λ (z : ProgramParts). z.rules) f) w);
    }))

-- ---- rules

taken_trees : (rules : List RuleParts) (n : ℕ) (r : RuleParts) → n < length rules → r ≡ slice_index_or rules n r → map rule_of_tree (take (n + 1) rules) ≡ map rule_of_tree (take n rules) ++ rule_of_tree r ∷ []
taken_trees rules n r l e =
    let taken : take (n + 1) rules ≡ take n rules ++ r ∷ [] = rw add-one (take-suc rules n r l ∙ ap (λ z. take n rules ++ z ∷ []) (sym e)) in
    ap (map rule_of_tree) taken ∙ map-append rule_of_tree (take n rules) (r ∷ [])

pub one_rule_more : (rules : List RuleParts) (n : ℕ) (r : RuleParts) → n < length rules → r ≡ slice_index_or rules n r → All IsWellFormed (map rule_of_tree (take n rules)) → IsWellFormed (rule_of_tree r) → All IsWellFormed (map rule_of_tree (take (n + 1) rules))
one_rule_more rules n r l e w v = subst (All IsWellFormed) (sym (taken_trees rules n r l e)) (All-push IsWellFormed (map rule_of_tree (take n rules)) (rule_of_tree r) w v)

-- ---- a turn whose call is blocked

failed_graph : {program : Program} {c : ℕ} {g h : Graph} {t : List meant.Item} → Run program (Call c) g [] t (Fails h) → h ≡ g
failed_graph (call_fails s b) = refl

pub same_graph : (c : ℕ) (w x y : View) → HasTurned turned.Made w x → HasCalled c called.Blocked x y → y.graph ≡ w.graph
same_graph c w x y a m = failed_graph m.0.makes.run ∙ a.graph

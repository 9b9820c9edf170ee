-- What a replayed trace answers.
use Rattle.std.proofs.Common.{nat_eq, ◌≡◌, ℕ, ◌+◌, ◌-◌, ◌^◌, ◌≤◌, ◌<◌, List, map, length, All, sym, subst, ap, refl, ◌∙◌, arith}
use Rattle.std.specs.Prelude.{Bool, true, false, IsTrue, Option, Some, None, IsSomeAnd, MatchOption, slice_get, slice_index_or, Contains}
use Rattle.std.proofs.lemmas.List.{length-map}
use Rattle.std.proofs.lemmas.Bool.Decides.{Decides-eqb}
use Rattle.std.proofs.lemmas.Option.{slice_get-get_or, get_or_from_slice_get, slice_get_within}
use Rattle.gp_memory.proofs.Basics.{no_both, some_same}
use Rattle.gp_values.specs.Graph.{Graph}
use Rattle.gp_syntax.specs.declared.command.ProgramParts.{ProgramParts}
use Rattle.gp_syntax.specs.declared.rule.RuleParts.{RuleParts}
use Rattle.gp_syntax.specs.declared.found.Item as trees
use Rattle.gp_syntax.specs.Rule.{Rule, Found}
use Rattle.gp_syntax.specs.Step.{Step, Blocked}
use Rattle.gp_syntax.specs.WellFormed.{IsWellFormed}
use Rattle.gp_syntax.specs.Scoped.{IsScoped}
use Rattle.gp_syntax.specs.Run.{Item, Stepped, Back, live, Gives, Fails, Run}
use Rattle.gp_syntax.specs.Tree.{rule_of_tree, item_of, program_of_tree}
use Rattle.gp_step.specs.Laws.{IsNumbered}
use Rattle.gp_journal.specs.Trail.{Trail}
use Rattle.gp_certify.specs.declared.end.Outcome.TheVariants as outcome
use Rattle.gp_certify.specs.Certified.{HasRunTo}
use Rattle.gp_certify.specs.Places.{between, IsPart, IsTakenBack}
use Rattle.gp_certify.specs.Parts.{StepsAt, BlockedAt}
use Rattle.gp_certify.specs.Laws.{WholeRuns}
use Rattle.gp_certify.specs.inside.View.{View, IsTape}
use Rattle.gp_certify.specs.inside.Whole.{HasRun}
use Rattle.gp_certify.specs.inside.Along.{trail_at, depth_at, AllGo, AreDepths, IsWalked, BreaksOff}
use Rattle.gp_certify.specs.inside.Replay.{Shown, view_of}
use Rattle.gp_certify.proofs.Replayed.{graphs_of, whole_runs, none_runs}
use Rattle.gp_certify.proofs.Walks.{well_formed_at, replays_at, depth_between}

-- ---- sets

pub set_within : (p q : ProgramParts) (sets : List (List ℕ)) (x set : List ℕ) (c : ℕ) → q ≡ p → sets ≡ q.sets → x ≡ slice_index_or sets c x → set ≡ x → c < length p.sets → IsScoped (program_of_tree p) → All (λ k. k < length p.rules) set
set_within p q sets x set c e f g h l w k d b =
    let same : sets ≡ p.sets = f ∙ ap (λ (z : ProgramParts). z.sets) e in
    let there : Contains p.sets set = (c, l, get_or_from_slice_get p.sets c set set (slice_get-get_or p.sets c x l ∙ ap (λ (y : List ℕ). Some y) (ap (λ (zs : List (List ℕ)). slice_index_or zs c x) (sym same) ∙ sym g ∙ sym h))) in
    let one : slice_index_or set k (slice_index_or set k d) ≡ slice_index_or set k d = get_or_from_slice_get set k (slice_index_or set k d) (slice_index_or set k d) (slice_get-get_or set k d b) in
    let low : slice_index_or set k d < length (map rule_of_tree p.rules) = w.rules set (slice_index_or set k d) there (k, b, one) in
    let n : length (map rule_of_tree p.rules) ≡ length p.rules = length-map p.rules rule_of_tree in
    omega arith

-- ---- steps

abbrev rules_of : Shown → List Rule
rules_of s = map rule_of_tree s.program.rules

abbrev trace_of : Shown → List Item
trace_of s = map item_of s.items

abbrev IsStep : Shown → ℕ → ℕ → Type 0
IsStep s c n = StepsAt (program_of_tree s.program) (map item_of s.items) (view_of s).graphs c n

step_here : (s : Shown) (c n : ℕ) (set : List ℕ) (m : Found) → AllGo (rules_of s) s.host (trace_of s) (length s.items) → slice_get (trace_of s) n ≡ Some (Stepped m) → slice_get s.program.sets c ≡ Some set → Contains set m.rule → IsStep s c n
step_here s c n set m a e i h =
    let l : n < length (map item_of s.items) = slice_get_within (map item_of s.items) n (Stepped m) e in
    let k : length (map item_of s.items) ≡ length s.items = length-map s.items item_of in
    let g = a n (Stepped m) (omega arith) e in
    let there : g.0 ≡ (view_of s).graphs (n + 1) = sym (ap (λ (t : Trail). t.graph) g.2) in
    record {
      set = set;
      is_set = i;
      found = m;
      item = e;
      step = record { in_set = h; rule = g.1.rule; is_rule = g.1.is_rule; step = subst (Step g.1.rule ((view_of s).graphs n) m) there g.1.step };
    }

step_set : (s : Shown) (c n : ℕ) (set : List ℕ) (m : Found) → slice_get (trace_of s) n ≡ Some (Stepped m) → slice_get s.program.sets c ≡ Some set → IsStep s c n → Contains set m.rule
step_set s c n set m e i w =
    let same_set : w.set ≡ set = some_same (sym w.is_set ∙ i) in
    let same : w.found ≡ m = stepped_same (some_same (sym w.item ∙ e)) in
    subst (λ (z : List ℕ). Contains z m.rule) same_set (subst (λ (x : Found). Contains w.set x.rule) same w.step.in_set)
  where
    stepped_same : {x y : Found} → Stepped x ≡ Stepped y → x ≡ y
    stepped_same q = cc

pub steps_told : (s t : Shown) (c n k : ℕ) (set : List ℕ) (m : Found) (b : Bool) → t ≡ s → AllGo (rules_of t) t.host (trace_of t) (length t.items) → slice_get (trace_of t) n ≡ Some (Stepped m) → slice_get t.program.sets c ≡ Some set → k ≡ m.rule
    → (IsTrue b → Contains set k) × (Contains set k → IsTrue b) → (IsTrue b → IsStep s c n) × (IsStep s c n → IsTrue b)
steps_told s t c n k set m b q a e i f d =
    subst (λ (z : Shown). (IsTrue b → IsStep z c n) × (IsStep z c n → IsTrue b)) q
    ((λ h. step_here t c n set m a e i (subst (Contains set) f (d.0 h))), (λ w. d.1 (subst (Contains set) (sym f) (step_set t c n set m e i w))))

pub no_step : (s t : Shown) (c n : ℕ) → t ≡ s → ((m : Found) → slice_get (trace_of t) n ≡ Some (Stepped m) → ⊥) → (IsTrue false → IsStep s c n) × (IsStep s c n → IsTrue false)
no_step s t c n q f =
    subst (λ (z : Shown). (IsTrue false → IsStep z c n) × (IsStep z c n → IsTrue false)) q
    ((λ h. absurd (no_both false refl h)), (λ w. absurd (f w.found w.item)))

-- ---- blocked sets

pub blocked_told : (s t : Shown) (c n : ℕ) (set : List ℕ) (rules : List RuleParts) (at : Trail) (g : Graph) (b : Bool) → t ≡ s → rules ≡ t.program.rules → slice_get t.program.sets c ≡ Some set → at ≡ trail_at (map rule_of_tree rules) t.host (trace_of t) n → g ≡ at.graph
    → (IsTrue b → Blocked (map rule_of_tree rules) set g) × (Blocked (map rule_of_tree rules) set g → IsTrue b) → (IsTrue b → BlockedAt (program_of_tree s.program) (view_of s).graphs c n) × (BlockedAt (program_of_tree s.program) (view_of s).graphs c n → IsTrue b)
blocked_told s t c n set rules at g b q e i l f d =
    let here : g ≡ (view_of t).graphs n = f ∙ ap (λ (x : Trail). x.graph) l ∙ ap (λ (rs : List RuleParts). (trail_at (map rule_of_tree rs) t.host (trace_of t) n).graph) e in
    let told : (IsTrue b → Blocked (rules_of t) set ((view_of t).graphs n)) × (Blocked (rules_of t) set ((view_of t).graphs n) → IsTrue b) =
    subst (λ (h : Graph). (IsTrue b → Blocked (rules_of t) set h) × (Blocked (rules_of t) set h → IsTrue b)) here
    (subst (λ (rs : List RuleParts). (IsTrue b → Blocked (map rule_of_tree rs) set g) × (Blocked (map rule_of_tree rs) set g → IsTrue b)) e d) in
    subst (λ (z : Shown). (IsTrue b → BlockedAt (program_of_tree z.program) (view_of z).graphs c n) × (BlockedAt (program_of_tree z.program) (view_of z).graphs c n → IsTrue b)) q
    ((λ h. record { set = set; is_set = i; blocked = told.0 h }), (λ w. told.1 (subst (λ (z : List ℕ). Blocked (rules_of t) z ((view_of t).graphs n)) (some_same (sym w.is_set ∙ i)) w.blocked)))

-- the graph of a trail that stands behind the last item
pub graph_there : (s t : Shown) (rules : List RuleParts) (at : Trail) (g h : Graph) → t ≡ s → rules ≡ t.program.rules → at ≡ trail_at (map rule_of_tree rules) t.host (trace_of t) (length t.items) → g ≡ at.graph → h ≡ g → h ≡ (view_of s).graphs (length s.items)
graph_there s t rules at g h q e l f o =
    subst (λ (z : Shown). h ≡ (view_of z).graphs (length z.items)) q
    (o ∙ f ∙ ap (λ (x : Trail). x.graph) l ∙ ap (λ (rs : List RuleParts). (trail_at (map rule_of_tree rs) t.host (trace_of t) (length t.items)).graph) e)

-- ---- taking back

pub depth_read : (rules : List Rule) (host : Graph) (t : List Item) (n k d x : ℕ) (depths : List ℕ) → AreDepths rules host t n depths → k ≤ n → d ≡ slice_index_or depths k x → d ≡ depth_at rules host t k
depth_read rules host t n k d x depths a l e = e ∙ get_or_from_slice_get depths k (depth_at rules host t k) x (a.each k l)

back_same : {i j : ℕ} → Back i ≡ Back j → i ≡ j
back_same e = cc

pub ordered_within : (s t : Shown) (i j : ℕ) → t ≡ s → IsPart (trace_of s) i j → (i ≤ length t.items) × (j ≤ length t.items)
ordered_within s t i j q p =
    let o = subst (λ (z : Shown). IsPart (trace_of z) i j) (sym q) p in
    let a : i ≤ j = o.ordered in
    let b : j ≤ length (map item_of t.items) = o.within in
    let n : length (map item_of t.items) ≡ length t.items = length-map t.items item_of in
    (omega arith, omega arith)

pub back_below : (s t : Shown) (i j d e : ℕ) → t ≡ s → IsPart (trace_of s) i j → d ≡ depth_at (rules_of t) t.host (trace_of t) j → e ≡ depth_at (rules_of t) t.host (trace_of t) i → e ≤ d
back_below s t i j d e q p x y =
    let o = subst (λ (z : Shown). IsPart (trace_of z) i j) (sym q) p in
    let b : depth_at (rules_of t) t.host (trace_of t) j ≡ depth_at (rules_of t) t.host (trace_of t) i + length (live (between (trace_of t) i j)) = depth_between (rules_of t) t.host (trace_of t) i j o.ordered o.fits in
    omega arith

-- the item takes back as many steps as there are more here than there
pub back_told : (s t : Shown) (i j k d e : ℕ) → t ≡ s → IsPart (trace_of s) i j → slice_get (trace_of t) j ≡ Some (Back k) → d ≡ depth_at (rules_of t) t.host (trace_of t) j → e ≡ depth_at (rules_of t) t.host (trace_of t) i
    → (IsTrue (nat_eq k (d - e)) → IsTakenBack (trace_of s) i j) × (IsTakenBack (trace_of s) i j → IsTrue (nat_eq k (d - e)))
back_told s t i j k d e q p at x y =
    let o = subst (λ (z : Shown). IsPart (trace_of z) i j) (sym q) p in
    let b : depth_at (rules_of t) t.host (trace_of t) j ≡ depth_at (rules_of t) t.host (trace_of t) i + length (live (between (trace_of t) i j)) = depth_between (rules_of t) t.host (trace_of t) i j o.ordered o.fits in
    let n : d - e ≡ length (live (between (trace_of t) i j)) = omega arith in
    let both = Decides-eqb k (d - e) in
    subst (λ (z : Shown). (IsTrue (nat_eq k (d - e)) → IsTakenBack (trace_of z) i j) × (IsTakenBack (trace_of z) i j → IsTrue (nat_eq k (d - e)))) q
    ((λ h. at ∙ ap (λ z. Some (Back z)) (both.0 h ∙ n)), (λ h. both.1 (back_same (some_same (sym at ∙ h)) ∙ sym n)))

-- ---- a tape

pub tape_of : (p : ProgramParts) (rules : List RuleParts) (host : Graph) (is : List trees.Item) (depths : List ℕ) (at : Trail) (len cap : ℕ) → rules ≡ p.rules → All IsWellFormed (map rule_of_tree rules) → IsNumbered host
    → IsWalked (map rule_of_tree rules) host (map item_of is) (length is) depths at → (len ≡ length depths) × (len ≤ cap) → cap < 2 ^ 63 → IsTape (view_of (record { program = p; host = host; items = is }))
tape_of p rules host is depths at len cap e w n k ok small =
    let ws : All IsWellFormed (map rule_of_tree p.rules) = subst (λ (rs : List RuleParts). All IsWellFormed (map rule_of_tree rs)) e w in
    let ks : AllGo (map rule_of_tree p.rules) host (map item_of is) (length is) = subst (λ (rs : List RuleParts). AllGo (map rule_of_tree rs) host (map item_of is) (length is)) e k.all_go in
    let l : length (map item_of is) ≡ length is = length-map is item_of in
    record {
      graphs = graphs_of (map rule_of_tree p.rules) (well_formed_at (map rule_of_tree p.rules) ws) host (map item_of is) _ n (λ i b. replays_at (map rule_of_tree p.rules) host (map item_of is) (length is) ks (omega arith) i (omega arith));
      short = let c = k.are_depths.count in let o = ok.0 in let q = ok.1 in omega arith;
    }

-- ---- what is told

last_same : (s u : Shown) → view_of u ≡ view_of s → (view_of u).graphs (length u.items) ≡ (view_of s).graphs (length s.items)
last_same s u e = ap (view_of u).graphs (sym (length-map u.items item_of)) ∙ ap (λ (v : View). v.graphs (length v.trace)) e ∙ ap (view_of s).graphs (length-map s.items item_of)

pub graph_told : {X : Type 0} (f : X → Graph) (o : Option X) (s u : Shown) (p : ProgramParts) (host : Graph) (is : List trees.Item) (b : Bool) → s ≡ record { program = p; host = host; items = is } → IsTape (view_of s) → view_of u ≡ view_of s
    → (IsTrue b → HasRun (view_of s) outcome.Gives) × (HasRun (view_of s) outcome.Gives → IsTrue b) → MatchOption o (b ≡ false) (λ g. (b ≡ true) × (f g ≡ (view_of u).graphs (length u.items)))
    → (h : Graph) → (IsSomeAnd o (λ g. f g ≡ h) → HasRunTo (program_of_tree p) host (map item_of is) (Gives h)) × (HasRunTo (program_of_tree p) host (map item_of is) (Gives h) → IsSomeAnd o (λ g. f g ≡ h))
graph_told {X} f o s u p host is b e w same d m h =
    subst (λ (z : Shown). (IsSomeAnd o (λ g. f g ≡ h) → HasRunTo (program_of_tree z.program) z.host (map item_of z.items) (Gives h)) × (HasRunTo (program_of_tree z.program) z.host (map item_of z.items) (Gives h) → IsSomeAnd o (λ g. f g ≡ h))) e
    (by o (subst (λ (k : Graph). MatchOption o (b ≡ false) (λ g. (b ≡ true) × (f g ≡ k))) (last_same s u same) m))
  where
    n : length s.items ≡ length (map item_of s.items)
    n = sym (length-map s.items item_of)

    r : WholeRuns (program_of_tree s.program) s.host (map item_of s.items) (view_of s).graphs (program_of_tree s.program).main outcome.Gives
    r = whole_runs (program_of_tree s.program) s.host (map item_of s.items) (view_of s).graphs w.graphs refl (program_of_tree s.program).main outcome.Gives

    by : (x : Option X) → MatchOption x (b ≡ false) (λ g. (b ≡ true) × (f g ≡ (view_of s).graphs (length s.items)))
        → (IsSomeAnd x (λ g. f g ≡ h) → HasRunTo (program_of_tree s.program) s.host (map item_of s.items) (Gives h)) × (HasRunTo (program_of_tree s.program) s.host (map item_of s.items) (Gives h) → IsSomeAnd x (λ g. f g ≡ h))
    by None q = ((λ y. absurd y), (λ y. absurd (no_both b q (d.1 (r.to_run (r.from_run y.0 h y.1).0)))))
    by (Some g) q = (
      (λ y. let a = d.0 q.0 in let at : (view_of s).graphs (length (map item_of s.items)) ≡ h = ap (view_of s).graphs (sym n) ∙ sym q.1 ∙ y in (a.0, subst (λ (z : Graph). Run (program_of_tree s.program) (program_of_tree s.program).main s.host a.0 (map item_of s.items) (Gives z)) at a.1)),
      (λ y. q.1 ∙ ap (view_of s).graphs n ∙ sym (r.from_run y.0 h y.1).1),
    )

pub fail_told : (s : Shown) (p : ProgramParts) (host : Graph) (is : List trees.Item) (b : Bool) → s ≡ record { program = p; host = host; items = is } → IsTape (view_of s) → (IsTrue b → HasRun (view_of s) outcome.Fails) × (HasRun (view_of s) outcome.Fails → IsTrue b)
    → (IsTrue b → (h : Graph) × HasRunTo (program_of_tree p) host (map item_of is) (Fails h)) × ((h : Graph) × HasRunTo (program_of_tree p) host (map item_of is) (Fails h) → IsTrue b)
fail_told s p host is b e w d =
    let r = whole_runs (program_of_tree s.program) s.host (map item_of s.items) (view_of s).graphs w.graphs refl (program_of_tree s.program).main outcome.Fails in
    subst (λ (z : Shown). (IsTrue b → (h : Graph) × HasRunTo (program_of_tree z.program) z.host (map item_of z.items) (Fails h)) × ((h : Graph) × HasRunTo (program_of_tree z.program) z.host (map item_of z.items) (Fails h) → IsTrue b)) e
    ((λ y. let a = d.0 y in ((view_of s).graphs (length (map item_of s.items)), (a.0, a.1))), (λ y. d.1 (r.to_run (r.from_run y.1.0 y.0 y.1.1).0)))

pub no_graph : {X : Type 0} (f : X → Graph) (p : ProgramParts) (host : Graph) (is : List trees.Item) → BreaksOff (map rule_of_tree p.rules) host (map item_of is)
    → (h : Graph) → (IsSomeAnd None (λ (g : X). f g ≡ h) → HasRunTo (program_of_tree p) host (map item_of is) (Gives h)) × (HasRunTo (program_of_tree p) host (map item_of is) (Gives h) → IsSomeAnd None (λ (g : X). f g ≡ h))
no_graph f p host is b h = ((λ y. absurd y), (λ y. absurd (none_runs (program_of_tree p) host (map item_of is) b.0 b.1 (program_of_tree p).main y.0 (Gives h) y.1)))

pub no_fail : (p : ProgramParts) (host : Graph) (is : List trees.Item) → BreaksOff (map rule_of_tree p.rules) host (map item_of is)
    → (IsTrue false → (h : Graph) × HasRunTo (program_of_tree p) host (map item_of is) (Fails h)) × ((h : Graph) × HasRunTo (program_of_tree p) host (map item_of is) (Fails h) → IsTrue false)
no_fail p host is b = ((λ y. absurd (no_both false refl y)), (λ y. absurd (none_runs (program_of_tree p) host (map item_of is) b.0 b.1 (program_of_tree p).main y.1.0 (Fails y.0) y.1.1)))

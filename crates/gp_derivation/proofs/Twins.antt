-- In whatever way items of an old version were brought up to date, the runs with them end with graphs of the same text, or
-- fail, alike.
use Rattle.std.proofs.Common.{◌≡◌, ℕ, ◌+◌, ◌<◌, List, [], ◌∷◌, ◌++◌, All, length, take, slice_get, Some, Contains, add-one, refl, sym, ap, subst, ◌∙◌}
use Rattle.std.proofs.Math.Seq.{take-suc}
use Rattle.std.proofs.lemmas.Option.{slice_get_within, get_or_from_slice_get}
use Rattle.gp_values.specs.Graph.{Graph}
use Rattle.gp_syntax.specs.Rule.{Rule, Found}
use Rattle.gp_syntax.specs.WellFormed.{IsWellFormed}
use Rattle.gp_syntax.specs.Step.{Step}
use Rattle.gp_syntax.specs.Run.{Program, Item, Stepped, live}
use Rattle.gp_syntax.specs.Replay.{StepsTo, Replays}
use Rattle.gp_step.specs.Laws.{IsNumbered}
use Rattle.gp_step.proofs.Wholes.{numbered_step}
use Rattle.gp_hostfile.specs.GraphText.{IsGraphText}
use Rattle.gp_derivation.specs.StepAnew.{StepAnew, StepsAnewTo}
use Rattle.gp_derivation.specs.Upgrade.{AreAlike, IsUpgrade}
use Rattle.gp_derivation.proofs.OneStep.{one_step_anew}
use Rattle.gp_derivation.proofs.Stacks.{live_more}
use Rattle.gp_certify.specs.declared.end.Outcome.{Outcome}
use Rattle.gp_certify.specs.declared.end.Outcome.TheVariants as outcome
use Rattle.gp_certify.specs.Certified.{HasRunTo}
use Rattle.gp_certify.specs.Places.{ending, AreGraphsOf, Spans}
use Rattle.gp_certify.proofs.Replayed.{one_way, graphs_of, whole_runs}
use Rattle.gp_certify.proofs.Walks.{well_formed_at}
use Rattle.gp_derivation.specs.Derivation.{EndsWith, with_graph, with_fail}
use Rattle.gp_derivation.proofs.AlikeGraphs.{alike_to_one, same_text}
use Rattle.gp_derivation.proofs.AlikeMatches.{blocked_alike}
use Rattle.gp_derivation.proofs.TwinItems.{AreSame, both_same, same_count, same_step, same_turn, same_back}
use Rattle.gp_derivation.proofs.TwinRuns.{AreTwins, moved}

-- ---- steps

module _ (rules : List Rule) (ok : (i : ℕ) (r : Rule) → slice_get rules i ≡ Some r → IsWellFormed r) where
  -- matches lead to one graph by the step that makes all edges anew
  anew_one_way : (ms : List Found) (g h k : Graph) → StepsAnewTo rules g ms h → StepsAnewTo rules g ms k → h ≡ k
  anew_one_way [] g h k a b = a ∙ sym b
  anew_one_way (m ∷ ms) g h k (c, r, e, s, a) (d, q, f, z, b) =
      let same : q ≡ r = cc in
      let one : d ≡ c = one_step_anew r g m d c (ok m.rule r e) (subst (λ (p : Rule). StepAnew p g m d) same z) s in
      anew_one_way ms c h k a (subst (λ (p : Graph). StepsAnewTo rules p ms k) one b)

  -- today's lead to a graph whose numbers are below the next ones
  pub numbered_on : (ms : List Found) (g h : Graph) → IsNumbered g → StepsTo rules g ms h → IsNumbered h
  numbered_on [] g h n a = subst IsNumbered (sym a) n
  numbered_on (m ∷ ms) g h n (c, r, e, s, a) = numbered_on ms c h (numbered_step (ok m.rule r e) n s.1.is_match s.2) a

  -- the last one is a step from the graph to which those before it lead
  last_is_step : (ms : List Found) (m : Found) (g h k : Graph) → IsNumbered g → StepsTo rules g ms h → StepsTo rules g (ms ++ m ∷ []) k → (r : Rule) × (slice_get rules m.rule ≡ Some r) × Step r h m k
  last_is_step [] m g h k n a (c, r, e, s, b) = (r, e, subst (λ (z : Graph). Step r z m k) (sym a) (subst (λ (z : Graph). Step r g m z) (sym b) s))
  last_is_step (l ∷ ms) m g h k n (c, r, e, s, a) (d, q, f, z, b) =
      let one : d ≡ c = one_way rules ok (l ∷ []) g d c n (d, q, f, z, refl) (c, r, e, s, refl) in
      last_is_step ms m c h k (numbered_step (ok l.rule r e) n s.1.is_match s.2) a (subst (λ (p : Graph). StepsTo rules p (ms ++ m ∷ []) k) one b)

  -- an item that is a step is one from the graph before it to the graph after it
  item_is_step : (host : Graph) (t : List Item) (graphs : ℕ → Graph) → IsNumbered host → ((n : ℕ) → Replays rules host (take n t) (graphs n)) → (i : ℕ) (m : Found) → slice_get t i ≡ Some (Stepped m)
      → (r : Rule) × (slice_get rules m.rule ≡ Some r) × Step r (graphs i) m (graphs (i + 1))
  item_is_step host t graphs n f i m e =
      let l : i < length t = slice_get_within t i (Stepped m) e in
      let next : take (i + 1) t ≡ take i t ++ Stepped m ∷ [] = rw add-one (take-suc t i (Stepped m) l ∙ ap (λ z. take i t ++ z ∷ []) (get_or_from_slice_get t i (Stepped m) (Stepped m) e)) in
      last_is_step (live (take i t)) m host (graphs i) (graphs (i + 1)) n (f i).steps
      (subst (λ (ms : List Found). StepsTo rules host ms (graphs (i + 1))) (ap live next ∙ live_more (take i t) (Stepped m)) (f (i + 1)).steps)

-- ---- both ways

module _ (program : Program) (host : Graph) (s t u : List Item) (w : All IsWellFormed program.rules) (n : IsNumbered host) (a : IsUpgrade program.rules host s t) (b : IsUpgrade program.rules host s u) where
  abbrev ok : (i : ℕ) (r : Rule) → slice_get program.rules i ≡ Some r → IsWellFormed r
  ok = well_formed_at program.rules w

  abbrev graphs : ℕ → Graph
  graphs i = (a.beginnings i).now

  abbrev others : ℕ → Graph
  others i = (b.beginnings i).now

  -- both are alike to the graph as it was
  was_alike : (i : ℕ) → AreAlike (a.beginnings i).was (others i)
  was_alike i =
      let x = a.beginnings i in
      let y = b.beginnings i in
      subst (λ (g : Graph). AreAlike g y.now) (anew_one_way program.rules ok (live (take i s)) host y.was x.was y.replays_anew.steps x.replays_anew.steps) y.alike

  there : (i : ℕ) → AreAlike (graphs i) (others i)
  there i = alike_to_one (a.beginnings i).alike (others i) (was_alike i)

  here : (i : ℕ) → AreAlike (others i) (graphs i)
  here i = alike_to_one (was_alike i) (graphs i) (a.beginnings i).alike

  numbered : (i : ℕ) → IsNumbered (graphs i)
  numbered i = numbered_on program.rules ok (live (take i t)) host (graphs i) n (a.beginnings i).replays.steps

  others_numbered : (i : ℕ) → IsNumbered (others i)
  others_numbered i = numbered_on program.rules ok (live (take i u)) host (others i) n (b.beginnings i).replays.steps

  same : AreSame t u
  same = both_same s t u a.items b.items

  of_t : AreGraphsOf program.rules t graphs
  of_t = graphs_of program.rules ok host t graphs n (λ i l. (a.beginnings i).replays)

  of_u : AreGraphsOf program.rules u others
  of_u = graphs_of program.rules ok host u others n (λ i l. (b.beginnings i).replays)

  twins : AreTwins program t u graphs others
  twins = record {
    count = same_count t u same;
    steps = λ set i m c e.
        let k = same_step t u i m same e in
        let z = item_is_step program.rules ok host u others n (λ j. (b.beginnings j).replays) i k.0 k.1 in
        (k.0, k.1, record { in_set = subst (Contains set) (sym k.2) c; rule = z.0; is_rule = z.1; step = z.2 });
    blocked = λ set i c. blocked_alike program.rules set (graphs i) (others i) (here i) c;
    turns = λ i e. same_turn t u i same e;
    backs = λ i m e. same_back t u i m same e;
  }

  -- a run of Main along the one is one along the other, to graphs that are alike
  run_moved : (x : Outcome) (h : Graph) → HasRunTo program host t (ending x h) → HasRunTo program host u (ending x (others (length u))) × (h ≡ graphs (length u))
  run_moved x h r =
      let first = (whole_runs program host t graphs of_t (a.beginnings 0).replays.steps program.main x).from_run r.0 h r.1 in
      let count : length t ≡ length u = sym twins.count in
      let span : Spans program u others program.main 0 (length u) x = subst (λ (k : ℕ). Spans program u others program.main 0 k x) count (moved program t u graphs others of_t of_u twins program.main 0 (length t) x first.0) in
      ((whole_runs program host u others of_u (b.beginnings 0).replays.steps program.main x).to_run span, first.1 ∙ ap graphs count)

  ends_moved : (text : List ℕ) → EndsWith program host t text → EndsWith program host u text
  ends_moved text (with_graph {h = h} r k) =
      let z = run_moved outcome.Gives h r in
      let i = length u in
      with_graph z.0 (same_text (graphs i) (others i) text (there i) (numbered i) (others_numbered i) (subst (λ (g : Graph). IsGraphText g text) z.1 k))
  ends_moved text (with_fail {h = h} r e) = with_fail (run_moved outcome.Fails h r).0 e

pub same_ends : (program : Program) (host : Graph) (s t u : List Item) (text : List ℕ) → All IsWellFormed program.rules → IsNumbered host → IsUpgrade program.rules host s t → IsUpgrade program.rules host s u
    → EndsWith program host t text → EndsWith program host u text
same_ends program host s t u text w n a b e = ends_moved program host s t u w n a b text e

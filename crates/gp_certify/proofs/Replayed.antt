-- The graphs of a trace are its replays.
use Rattle.std.proofs.Common.{◌≡◌, ℕ, ◌+◌, ◌-◌, ◌≤◌, Bool, List, [], ◌∷◌, ◌++◌, length, take, drop, slice_get, Some, sym, ap, subst, ◌∙◌, arith}
use Rattle.std.proofs.Math.Seq.{take-add, take-length}
use Rattle.std.proofs.lemmas.List.{take-append-drop}
use Rattle.gp_values.specs.Graph.{Graph}
use Rattle.gp_syntax.specs.Rule.{Rule, Found}
use Rattle.gp_syntax.specs.Step.{Step}
use Rattle.gp_syntax.specs.Run.{Command, Program, Item, Ending, live, Run}
use Rattle.gp_syntax.specs.Replay.{StepsTo, Replays}
use Rattle.gp_syntax.specs.WellFormed.{IsWellFormed}
use Rattle.gp_step.specs.After.{after}
use Rattle.gp_step.specs.Laws.{IsNumbered}
use Rattle.gp_syntax.proofs.Runs.{traced}
use Rattle.gp_syntax.proofs.Traces.{replays-append}
use Rattle.gp_step.proofs.Afters.{only_steps}
use Rattle.gp_step.proofs.Wholes.{numbered_after}
use Rattle.gp_certify.specs.declared.end.Outcome.{Outcome}
use Rattle.gp_certify.specs.Places.{ending, between, AreGraphsOf}
use Rattle.gp_certify.specs.Laws.{WholeRuns}
use Rattle.gp_certify.proofs.Compose.{lands, at_ending}

module _ (rules : List Rule) (ok : (i : ℕ) (r : Rule) → slice_get rules i ≡ Some r → IsWellFormed r) where
  pub one_way : (ms : List Found) (g h k : Graph) → IsNumbered g → StepsTo rules g ms h → StepsTo rules g ms k → h ≡ k
  one_way [] g h k n a b = a ∙ sym b
  one_way (m ∷ ms) g h k n (c, r, e, s, a) (d, q, f, z, b) =
      let w = ok m.rule r e in
      let same : q ≡ r = cc in
      let x : c ≡ after r g m = only_steps r g m w n c s in
      let y : d ≡ after r g m = only_steps r g m w n d (subst (λ (p : Rule). Step p g m d) same z) in
      let o : IsNumbered c = subst IsNumbered (sym x) (numbered_after r g m w n (s.0, s.1)) in
      one_way ms c h k o a (subst (λ (p : Graph). StepsTo rules p ms k) (y ∙ sym x) b)

  pub graphs_of : (host : Graph) (t : List Item) (graphs : ℕ → Graph) → IsNumbered host → ((n : ℕ) → n ≤ length t → Replays rules host (take n t) (graphs n)) → AreGraphsOf rules t graphs
  graphs_of host t graphs n f = record {
    only = λ i j h l m r. (let e : take i t ++ between t i j ≡ take j t = sym (take-add i (j - i) t) ∙ ap (λ (z : ℕ). take z t) (let q : i + (j - i) ≡ j = omega arith in q) in
        let a : Replays rules host (take j t) h = subst (λ (z : List Item). Replays rules host z h) e (replays-append rules (take i t) (between t i j) host (graphs i) h (f i (omega arith)) r) in
        one_way (live (take j t)) host h (graphs j) n a.steps (f j m).steps);
  }

all_between : (t : List Item) → between t 0 (length t) ≡ t
all_between t = let e : length t - 0 ≡ length t = omega arith in ap (λ n. take n t) e ∙ take-length t

pub whole_runs : (program : Program) (host : Graph) (t : List Item) (graphs : ℕ → Graph) → AreGraphsOf program.rules t graphs → graphs 0 ≡ host → (p : Command) (x : Outcome) → WholeRuns program host t graphs p x
whole_runs program host t graphs w e p x = record {
  from_run = λ picks h r. (let k : h ≡ graphs (length t) = sym (at_ending x h) ∙ lands program t graphs w r 0 (length t) (omega arith) (omega arith) (sym e) (sym (all_between t)) in (
    record {
      ordered = omega arith;
      within = omega arith;
      picks = picks;
      run = subst (λ (z : Graph). Run program p (graphs 0) picks (between t 0 (length t)) (ending x z)) k
          (subst (λ (z : List Item). Run program p (graphs 0) picks z (ending x h)) (sym (all_between t)) (subst (λ (z : Graph). Run program p z picks t (ending x h)) (sym e) r));
    },
    k,
  ));
  to_run = λ s. (s.picks, subst (λ (z : Graph). Run program p z s.picks t (ending x (graphs (length t)))) e (subst (λ (z : List Item). Run program p (graphs 0) s.picks z (ending x (graphs (length t)))) (all_between t) s.run));
}

pub none_runs : (program : Program) (host : Graph) (t : List Item) (n : ℕ) → ((h : Graph) → Replays program.rules host (take n t) h → ⊥) → (p : Command) (picks : List Bool) (x : Ending) → Run program p host picks t x → ⊥
none_runs program host t n f p picks x r = let b = (traced r).beginnings (take n t) (drop n t) (sym (take-append-drop n t)) in f b.0 b.1

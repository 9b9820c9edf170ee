-- Where commands may end, and what this says of runs.
use Rattle.std.specs.Prelude.{◌≡◌, ◌↔◌, ℕ, ◌≤◌, Bool, List, length, take, Some, slice_get}
use Rattle.gp_values.specs.Graph.{Graph}
use Rattle.gp_syntax.specs.Rule.{Rule}
use Rattle.gp_syntax.specs.WellFormed.{IsWellFormed}
use Rattle.gp_syntax.specs.Replay.{Replays}
use Rattle.gp_syntax.specs.Run.{Command, Program, Item, Ending, Run}
use Rattle.gp_step.specs.Laws.{IsNumbered}
use Rattle.gp_certify.specs.declared.end.Outcome.{Outcome}
use Rattle.gp_certify.specs.Places.{ending, AreGraphsOf, Spans}
use Rattle.gp_certify.specs.Parts.{OfParts}

-- From a place of a trace, a command ends exactly where its parts let it.
abbrev pub SpansAreOfParts : Type 0
SpansAreOfParts =
    (program : Program) (t : List Item) (graphs : ℕ → Graph) → AreGraphsOf program.rules t graphs
    → (p : Command) (i j : ℕ) (x : Outcome) → i ≤ length t → Spans program t graphs p i j x ↔ OfParts program t graphs (Spans program t graphs) p i j x

-- Where each beginning of a trace replays to the graph at its place, by checked rules, these are the graphs of the trace.
abbrev pub ReplaysAreGraphs : Type 0
ReplaysAreGraphs =
    (rules : List Rule) (host : Graph) (t : List Item) (graphs : ℕ → Graph) → ((i : ℕ) (r : Rule) → slice_get rules i ≡ Some r → IsWellFormed r) → IsNumbered host
    → ((n : ℕ) → n ≤ length t → Replays rules host (take n t) (graphs n)) → AreGraphsOf rules t graphs

-- what the runs of a command of the whole trace are
pub record WholeRuns (program : Program) (host : Graph) (t : List Item) (graphs : ℕ → Graph) (p : Command) (x : Outcome) : Type 0 where
  pub from_run : (picks : List Bool) (h : Graph) → Run program p host picks t (ending x h) → Spans program t graphs p 0 (length t) x × (h ≡ graphs (length t))
  pub to_run : Spans program t graphs p 0 (length t) x → (picks : List Bool) × Run program p host picks t (ending x (graphs (length t)))

abbrev pub RunsAreSpans : Type 0
RunsAreSpans =
    (program : Program) (host : Graph) (t : List Item) (graphs : ℕ → Graph) → AreGraphsOf program.rules t graphs → graphs 0 ≡ host
    → (p : Command) (x : Outcome) → WholeRuns program host t graphs p x

-- and where some beginning does not replay, there is none
abbrev pub NoReplayNoRun : Type 0
NoReplayNoRun =
    (program : Program) (host : Graph) (t : List Item) (n : ℕ) → ((h : Graph) → Replays program.rules host (take n t) h → ⊥)
    → (p : Command) (picks : List Bool) (x : Ending) → Run program p host picks t x → ⊥

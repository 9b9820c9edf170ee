-- How a run of a program ends.
use Rattle.std.specs.Prelude.{◌≡◌, ◌≤◌, ℕ, Bool, true, false, List, length, Option, Some, None}
use Rattle.std.specs.Option.{option_map}
use Rattle.gp_memory.specs.Free.{Free}
use Rattle.gp_values.specs.Graph.{Graph}
use Rattle.gp_syntax.specs.Run.{Program, Item, Run, Ending, Gives, Fails, At, live, counted, MayGoOn, HasFaultyCall}
use Rattle.gp_journal.specs.Journal.{Kept, items_of}
use Rattle.gp_run.specs.Finished.{AreAnswers}
use Rattle.gp_system.specs.declared.outcome.Ran.{Ran}
use Rattle.gp_system.specs.declared.outcome.Outcome.{Outcome}
use Rattle.gp_system.specs.declared.outcome.Outcome.TheVariants as outcome

-- a trace, where it is to be kept
abbrev pub kept_if : Bool → List Item → Option (List Item)
kept_if true t = Some t
kept_if false t = None

-- the items that a run leaves
abbrev pub items_left : Ran → Option (List Item)
items_left r = option_map (λ (k : Kept). items_of k.items) r.items

module _ {S : Type 0} (answer : S → Bool) (next : S → S) where
  -- There is a run of Main from the host that ends so: the picks are the chooser's answers, and no more items are counted
  -- than the bound lets be. As many steps are live as are left of it, and its trace is left exactly where items are to be
  -- kept.
  pub record HasRun (program : Program) (host : Graph) (bound : ℕ) (keeps : Bool) (s u : S) (r : Ran) (x : Ending) : Type 0 where
    pub picks : List Bool
    pub trace : List Item
    pub run : Run program program.main host picks trace x
    pub answers : AreAnswers answer next picks s u
    pub within : counted trace ≤ bound
    pub live_steps : r.live ≡ length (live trace)
    pub kept : items_left r ≡ kept_if keeps trace

  -- the same, with as many items counted as the bound lets be
  pub record HasSpent (program : Program) (host : Graph) (bound : ℕ) (keeps : Bool) (s u : S) (r : Ran) : Type 0 where
    pub ending : Ending
    pub has_run : HasRun program host bound keeps s u r ending
    pub may_go_on : MayGoOn program r.graph.graph ending
    pub spent : counted has_run.trace ≡ bound

  -- With a graph or by fail, at the graph that is left; where the bound is spent, and the execution might go on; or before a
  -- call, at a faulty match.
  abbrev pub HasEnded : Program → Graph → ℕ → Bool → S → S → Outcome → Type 0
  HasEnded program host bound keeps s u (outcome.Graph r) = HasRun program host bound keeps s u r (Gives r.graph.graph)
  HasEnded program host bound keeps s u (outcome.Fail r) = HasRun program host bound keeps s u r (Fails r.graph.graph)
  HasEnded program host bound keeps s u (outcome.Bound r) = HasSpent program host bound keeps s u r
  HasEnded program host bound keeps s u (outcome.Fault r rule kind) = (c : ℕ) × HasRun program host bound keeps s u r (At c r.graph.graph) × HasFaultyCall program c rule kind r.graph.graph
  HasEnded program host bound keeps s u outcome.NoMemory = Free

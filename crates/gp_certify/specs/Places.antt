-- Where a command may end in a trace.
use Rattle.std.specs.Prelude.{◌≡◌, ℕ, ◌-◌, ◌≤◌, Bool, List, length, take, drop, Some, slice_get}
use Rattle.gp_values.specs.Graph.{Graph}
use Rattle.gp_syntax.specs.Rule.{Rule}
use Rattle.gp_syntax.specs.Run.{Command, Program, Item, Back, Ending, Gives, Fails, Breaks, live, Run}
use Rattle.gp_syntax.specs.Replay.{Replays, BacksFit}
use Rattle.gp_certify.specs.declared.end.Outcome.{Outcome}
use Rattle.gp_certify.specs.declared.end.Outcome.TheVariants as outcome

abbrev pub ending : Outcome → Graph → Ending
ending outcome.Gives h = Gives h
ending outcome.Fails h = Fails h
ending outcome.Breaks h = Breaks h

-- the items from place i on that stand before place j
abbrev pub between : List Item → ℕ → ℕ → List Item
between t i j = take (j - i) (drop i t)

-- The graphs at the places of a trace: between two places the items lead nowhere else.
pub record AreGraphsOf (rules : List Rule) (t : List Item) (graphs : ℕ → Graph) : Type 0 where
  pub only : (i j : ℕ) (h : Graph) → i ≤ j → j ≤ length t → Replays rules (graphs i) (between t i j) h → h ≡ graphs j

-- A command that begins at place i may end so at place j.
pub record Spans (program : Program) (t : List Item) (graphs : ℕ → Graph) (p : Command) (i j : ℕ) (x : Outcome) : Type 0 where
  pub ordered : i ≤ j
  pub within : j ≤ length t
  pub picks : List Bool
  pub run : Run program p (graphs i) picks (between t i j) (ending x (graphs j))

-- two places, between which no more is taken back than is live since the first
pub record IsPart (t : List Item) (i j : ℕ) : Type 0 where
  pub ordered : i ≤ j
  pub within : j ≤ length t
  pub fits : BacksFit 0 (between t i j)

-- the item at the place m takes back all that is live since the place i
abbrev pub IsTakenBack : List Item → ℕ → ℕ → Type 0
IsTakenBack t i m = slice_get t m ≡ Some (Back (length (live (between t i m))))

-- What holds of traces of the step that makes all edges anew.
use Rattle.std.specs.Prelude.{◌≡◌, ◌⊎◌, ℕ, List, take, All}
use Rattle.gp_values.specs.Graph.{Graph}
use Rattle.gp_syntax.specs.Rule.{Rule, Found}
use Rattle.gp_syntax.specs.WellFormed.{IsWellFormed}
use Rattle.gp_syntax.specs.Step.{Applies}
use Rattle.gp_syntax.specs.Run.{Program, Item}
use Rattle.gp_step.specs.Laws.{IsNumbered}
use Rattle.gp_derivation.specs.StepAnew.{StepAnew, ReplaysAnew}
use Rattle.gp_derivation.specs.Upgrade.{IsUpgrade, BreaksAtItem}
use Rattle.gp_derivation.specs.Derivation.{EndsWith}

-- A match leads to one graph at most.
abbrev pub StepAnewIsUnique : Type 0
StepAnewIsUnique = (r : Rule) (g : Graph) (m : Found) (h k : Graph) → IsWellFormed r → StepAnew r g m h → StepAnew r g m k → h ≡ k

-- An applying match of a well-formed rule leads to one, from a graph whose used numbers are below the next ones.
abbrev pub MatchesLeadAnew : Type 0
MatchesLeadAnew = (r : Rule) (g : Graph) (m : Found) → IsWellFormed r → IsNumbered g → Applies r g m → (h : Graph) × StepAnew r g m h

-- Items have an upgrade or break at a place, by well-formed rules and from a numbered host: at one place at most, and not
-- both.
pub record BreaksAreTold (rules : List Rule) (host : Graph) (s : List Item) : Type 0 where
  pub some : All IsWellFormed rules → IsNumbered host → ((t : List Item) × IsUpgrade rules host s t) ⊎ ((n : ℕ) × BreaksAtItem rules host s n)
  pub one : (m n : ℕ) → BreaksAtItem rules host s m → BreaksAtItem rules host s n → m ≡ n
  pub none : (t : List Item) (n : ℕ) → IsUpgrade rules host s t → BreaksAtItem rules host s n → ⊥

abbrev pub ItemsBreakOnce : Type 0
ItemsBreakOnce = (rules : List Rule) (host : Graph) (s : List Item) → BreaksAreTold rules host s

-- Items of which each beginning replays have an upgrade.
abbrev pub UpgradesExist : Type 0
UpgradesExist = (rules : List Rule) (host : Graph) (s : List Item) → All IsWellFormed rules → IsNumbered host → ((n : ℕ) → (g : Graph) × ReplaysAnew rules host (take n s) g)
    → (t : List Item) × IsUpgrade rules host s t

-- All that the same items can be brought up to date as end alike.
abbrev pub UpgradesEndAlike : Type 0
UpgradesEndAlike = (program : Program) (host : Graph) (s t u : List Item) (text : List ℕ) → All IsWellFormed program.rules → IsNumbered host → IsUpgrade program.rules host s t → IsUpgrade program.rules host s u
    → EndsWith program host t text → EndsWith program host u text

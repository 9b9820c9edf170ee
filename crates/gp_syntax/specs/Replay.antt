-- What a trace makes of a graph, by the rules of a list.
use Rattle.std.specs.Prelude.{◌≡◌, ℕ, ◌+◌, ◌-◌, ◌≤◌, List, [], ◌∷◌, Some, slice_get}
use Rattle.gp_values.specs.Graph.{Graph}
use Rattle.gp_syntax.specs.Rule.{Rule, Found}
use Rattle.gp_syntax.specs.Step.{Step}
use Rattle.gp_syntax.specs.Run.{Item, Stepped, Turned, Back, live}

-- these matches are steps, one after another
abbrev pub StepsTo : List Rule → Graph → List Found → Graph → Type 0
StepsTo rules g [] h = h ≡ g
StepsTo rules g (m ∷ ms) h = (k : Graph) × (r : Rule) × (slice_get rules m.rule ≡ Some r) × Step r g m k × StepsTo rules k ms h

-- each Back finds the steps that it takes back, where this many are live before
abbrev pub BacksFit : ℕ → List Item → Type 0
BacksFit n [] = Unit {0}
BacksFit n (Stepped m ∷ t) = BacksFit (n + 1) t
BacksFit n (Turned ∷ t) = BacksFit n t
BacksFit n (Back k ∷ t) = (k ≤ n) × BacksFit (n - k) t

-- the trace leads from the one graph to the other
pub record Replays (rules : List Rule) (g : Graph) (t : List Item) (h : Graph) : Type 0 where
  pub backs : BacksFit 0 t
  pub steps : StepsTo rules g (live t) h

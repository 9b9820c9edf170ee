-- What the function says is what the relation says.
use Rattle.std.specs.Prelude.{◌≡◌, ℕ, ◌<◌, List, All, IsSome}
use Rattle.gp_values.specs.declared.atom.Atom.{Atom}
use Rattle.gp_values.specs.Atoms.{AreAtoms}
use Rattle.gp_values.specs.Graph.{Graph, IsGraph, node_at, edge_at}
use Rattle.gp_syntax.specs.Expression.{Expression}
use Rattle.gp_syntax.specs.Value.{Assignment, Value, value_of}
use Rattle.gp_syntax.specs.Rule.{Rule, Found}
use Rattle.gp_syntax.specs.Match.{MatchBy, setting_of}
use Rattle.gp_syntax.specs.Step.{Applies, Step, right_labels}
use Rattle.gp_syntax.specs.WellFormed.{IsWellFormed}
use Rattle.gp_step.specs.After.{after}

-- the values of right labels are lists of atoms in their ranges
abbrev pub MakesAtoms : Rule → Graph → Found → Type 0
MakesAtoms r g m = (a : Assignment) → MatchBy r g m a → All (λ (e : Expression ℕ). (v : List Atom) → value_of e (setting_of r g m a) ≡ Value v → AreAtoms v) (right_labels r)

-- used numbers are below the next ones
pub record IsNumbered (g : Graph) : Type 0 where
  pub nodes_below : (n : ℕ) → IsSome (node_at g n) → n < g.next_node
  pub edges_below : (e : ℕ) → IsSome (edge_at g e) → e < g.next_edge

-- An applying match has a step, to the graph of the function and to no other, and that is a graph.
pub record HasOneStep (r : Rule) (g : Graph) (m : Found) : Type 0 where
  pub leads : Applies r g m → Step r g m (after r g m)
  pub only : (h : Graph) → Step r g m h → h ≡ after r g m
  pub numbered : Applies r g m → IsNumbered (after r g m)
  pub whole : IsGraph g → Applies r g m → MakesAtoms r g m → IsGraph (after r g m)

abbrev pub MatchesLeadOn : Type 0
MatchesLeadOn = (r : Rule) (g : Graph) (m : Found) → IsWellFormed r → IsNumbered g → HasOneStep r g m

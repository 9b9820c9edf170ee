use Rattle.std.proofs.Common.{ℕ}
use Rattle.std.specs.Prelude.{◌⊎◌, Contains}
use Rattle.gp_graph.specs.Walks.{BeginsAt, EndsAt}
use Rattle.gp_run_cases.proofs.graphs.edits.leads_only_to.Given as goal

-- each edge that is still to come begins at the node, and each other of the walk ends at the target
abbrev pub invariant-loop-e : goal.invariant-loop-e
invariant-loop-e l =
    (goal.iterator-loop-e).can_next l.e-iterator × (goal.iterator-loop-e).is_finite l.e-iterator
    × ((k : ℕ) → Contains l.e-iterator k → BeginsAt l.graph.graph l.n k)
    × ((k : ℕ) → Contains l.initial.e-iterator k → Contains l.e-iterator k ⊎ EndsAt l.graph.graph l.target k)

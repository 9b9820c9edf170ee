use Rattle.std.proofs.Common.{◌≡◌, ◌≤◌, true}
use Rattle.std.specs.FinMap.{entries}
use Rattle.gp_cli.proofs.Counting.{below}
use Rattle.gp_cli.proofs.counts.count_edges.Given as goal

abbrev pub invariant-loop-e : goal.invariant-loop-e
invariant-loop-e l = (l.count ≡ below (λ x. true) l.e (entries l.fn.graph.graph.edges)) × (l.count ≤ l.e)

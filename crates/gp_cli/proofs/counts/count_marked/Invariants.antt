use Rattle.std.proofs.Common.{◌≡◌, ◌≤◌}
use Rattle.std.specs.FinMap.{entries}
use Rattle.gp_cli.specs.Summary.{same_mark}
use Rattle.gp_cli.proofs.Counting.{below}
use Rattle.gp_cli.proofs.counts.count_marked.Given as goal

abbrev pub invariant-loop-n : goal.invariant-loop-n
invariant-loop-n l = (l.count ≡ below (λ x. same_mark x.mark l.fn.mark) l.n (entries l.fn.graph.graph.nodes)) × (l.count ≤ l.n)

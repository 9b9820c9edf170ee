use Rattle.std.proofs.Common.{◌≡◌, ◌+◌, ◌++◌, drop, map}
use Rattle.gp_syntax.specs.Rule.{kept_edges}
use Rattle.gp_syntax.specs.Tree.{rule_of_tree}
use Rattle.gp_step.specs.Halves.{stays, gone}
use Rattle.gp_step.specs.inside.Made.{number_of}
use Rattle.gp_step.proofs.changes.gone_edges.Given as goal

abbrev pub invariant-loop-i : goal.invariant-loop-i
invariant-loop-i l = l.removed.items ++ gone (λ k. stays (kept_edges (rule_of_tree l.parts)) (l.i + k)) (map number_of (drop l.i l.edges)) ≡ gone (stays (kept_edges (rule_of_tree l.parts))) (map number_of l.edges)

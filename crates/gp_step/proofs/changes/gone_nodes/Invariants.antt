use Rattle.std.proofs.Common.{◌≡◌, ◌+◌, ◌++◌, drop}
use Rattle.gp_syntax.specs.Rule.{kept_nodes}
use Rattle.gp_syntax.specs.Tree.{rule_of_tree}
use Rattle.gp_step.specs.Halves.{stays, gone}
use Rattle.gp_step.proofs.changes.gone_nodes.Given as goal

abbrev pub invariant-loop-i : goal.invariant-loop-i
invariant-loop-i l = l.removed.items ++ gone (λ k. stays (kept_nodes (rule_of_tree l.parts)) (l.i + k)) (drop l.i l.nodes) ≡ gone (stays (kept_nodes (rule_of_tree l.parts))) l.nodes

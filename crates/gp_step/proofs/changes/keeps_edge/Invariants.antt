use Rattle.std.proofs.Common.{◌≡◌, drop, map}
use Rattle.gp_syntax.specs.Rule.{kept_edge}
use Rattle.gp_syntax.specs.Tree.{rule_of_tree, right_edge_of}
use Rattle.gp_step.specs.Halves.{stays}
use Rattle.gp_step.proofs.changes.keeps_edge.Given as goal

abbrev pub invariant-right : goal.invariant-right
invariant-right l = stays (map (kept_edge (rule_of_tree l.parts)) (map right_edge_of (drop l.q-index l.right))) l.place ≡ stays (map (kept_edge (rule_of_tree l.parts)) (map right_edge_of l.right)) l.place

use Rattle.std.proofs.Common.{◌≡◌, drop, map}
use Rattle.gp_syntax.specs.Tree.{right_node_of}
use Rattle.gp_step.specs.Halves.{stays}
use Rattle.gp_step.specs.Edits.{origin_of}
use Rattle.gp_step.proofs.changes.keeps_node.Given as goal

abbrev pub invariant-right : goal.invariant-right
invariant-right l = stays (map origin_of (map right_node_of (drop l.q-index l.right))) l.place ≡ stays (map origin_of (map right_node_of l.right)) l.place

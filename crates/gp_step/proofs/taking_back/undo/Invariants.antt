use Rattle.std.proofs.Common.{◌-◌, ◌++◌, replicate, reverse}
use Rattle.gp_step.specs.declared.inverse.Inverse.TheVariants.{DropNode, DropEdge}
use Rattle.gp_step.proofs.Undoing.{Left}
use Rattle.gp_step.proofs.taking_back.undo.Given as goal

abbrev pub invariant-edges : goal.invariant-edges
invariant-edges l = Left (replicate (l.edges - l.counter) DropEdge ++ (replicate l.nodes DropNode ++ reverse l.taken.items)) l.graph.graph l.fn.undo l.fn.graph.graph

abbrev pub invariant-nodes : goal.invariant-nodes
invariant-nodes l = Left (replicate (l.nodes - l.counter) DropNode ++ reverse l.taken.items) l.graph.graph l.fn.undo l.fn.graph.graph

abbrev pub invariant-taken : goal.invariant-taken
invariant-taken l = Left (reverse l.taken.items) l.graph.graph l.fn.undo l.fn.graph.graph

abbrev pub decreases-taken : goal.decreases-taken
decreases-taken l = goal.left-taken l

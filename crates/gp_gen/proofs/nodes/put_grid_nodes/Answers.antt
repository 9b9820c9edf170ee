use Rattle.gp_gen.specs.Host.{grid_node}
use Rattle.gp_gen.proofs.NodeLines.{node_more}
use Rattle.gp_gen.proofs.Puts.{nothing}
use Rattle.gp_gen.proofs.nodes.put_grid_nodes.Goals as goal

pub loop-k-init : goal.loop-k-init
loop-k-init c = nothing

pub loop-k-preserved : goal.loop-k-preserved
loop-k-preserved c = node_more grid_node c.loop-k.k c.loop-k.invariant c.put_node.ensures

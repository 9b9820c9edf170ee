use Rattle.std.proofs.Common.{ap}
use Rattle.std.proofs.lemmas.Result.{err_from_is_err_and}
use Rattle.gp_hostfile.specs.inside.Stages.{nodes_made}
use Rattle.gp_hostfile.proofs.Making.{nodes_go_on, nodes_stop, nodes_end}
use Rattle.gp_hostfile.proofs.build.build_nodes.Goals as goal

pub loop-node-init : goal.loop-node-init
loop-node-init c = ap (nodes_made c.args.nodes.now) c.reserve.ensures.graph

pub returns-in_err-build_node : goal.returns-in_err-build_node
returns-in_err-build_node c =
    let p = err_from_is_err_and c.from_residual-in_err-build_node.result c.from_residual-in_err-build_node.ensures.1 in
    rw (p.1, p.2) (nodes_stop c.args.nodes.now c.loop-node.node-index c.node-item.result c.loop-node-test.true c.node-item.is _ _ c.loop-node.invariant c.in_err-build_node.field-0.0 c.in_err-build_node.ensures)

pub loop-node-preserved : goal.loop-node-preserved
loop-node-preserved c = nodes_go_on c.args.nodes.now c.loop-node.node-index c.node-item.result c.loop-node-test.true c.node-item.is _ _ c.loop-node.invariant _ c.in_ok-build_node.ensures

pub returns : goal.returns
returns c = nodes_end c.args.nodes.now c.loop-node.node-index _ _ c.loop-node-test.false c.loop-node.invariant

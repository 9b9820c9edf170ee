use Rattle.gp_syntax.specs.Tree.{node_of, declaration_of, right_node_of}
use Rattle.gp_clauses.proofs.Walks.{item_at}
use Rattle.gp_check.specs.inside.Placed.{right_node_at}
use Rattle.gp_check.proofs.Pushes.{made_on}
use Rattle.gp_check.proofs.build.right_nodes.Goals as goal

pub loop-node-preserved : goal.loop-node-preserved
loop-node-preserved c =
    let xs = c.as_slice-node-items.result.now in
    made_on right_node_of (right_node_at c.args.variables.now (declaration_of c.args.rule.now)) node_of xs c.loop-node.node-index c.node-item.result _ _ _ _ (item_at xs _ _ c.loop-node-test.true c.node-item.is) c.in_ok-push.ensures.ok c.in_ok-next.ensures c.loop-node.invariant

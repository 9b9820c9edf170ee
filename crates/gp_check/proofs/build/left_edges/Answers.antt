use Rattle.gp_syntax.specs.Tree.{edge_of, declaration_of, left_edge_of}
use Rattle.gp_clauses.proofs.Walks.{item_at}
use Rattle.gp_check.specs.inside.Placed.{left_edge_at}
use Rattle.gp_check.proofs.Pushes.{made_on}
use Rattle.gp_check.proofs.build.left_edges.Goals as goal

pub loop-edge-preserved : goal.loop-edge-preserved
loop-edge-preserved c =
    let xs = c.as_slice-edge-items.result.now in
    made_on left_edge_of (left_edge_at c.args.variables.now (declaration_of c.args.rule.now)) edge_of xs c.loop-edge.edge-index c.edge-item.result _ _ _ _ (item_at xs _ _ c.loop-edge-test.true c.edge-item.is) c.in_ok-push.ensures.ok c.in_ok-next.ensures c.loop-edge.invariant

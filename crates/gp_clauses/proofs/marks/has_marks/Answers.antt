use Rattle.std.proofs.Common.{◌∙◌, sym}
use Rattle.gp_syntax.specs.Declaration.{DeclaredNode, DeclaredEdge}
use Rattle.gp_syntax.specs.Fault.{is_node_mark, is_edge_mark}
use Rattle.gp_clauses.proofs.Walks.{all_fails, all_ended, item_at}
use Rattle.gp_clauses.proofs.Parts.{some_node_fails, some_edge_fails, none_fails}
use Rattle.gp_clauses.proofs.marks.has_marks.Goals as goal

pub returns-then-not-is_node_mark : goal.returns-then-not-is_node_mark
returns-then-not-is_node_mark c =
    let xs = c.as_slice-node-items.result.now in
    some_node_fails (λ (n : DeclaredNode). is_node_mark n.mark) (λ (e : DeclaredEdge). is_edge_mark e.mark) c.args.side.now (sym c.nodes.invariant ∙ all_fails _ xs c.nodes.node-index _ (item_at xs _ _ c.nodes-test.true c.node-item.is) (sym c.is_node_mark.ensures ∙ c.if-not-is_node_mark.true))

pub returns-then-not-is_edge_mark : goal.returns-then-not-is_edge_mark
returns-then-not-is_edge_mark c =
    let xs = c.as_slice-edge-items.result.now in
    some_edge_fails (λ (n : DeclaredNode). is_node_mark n.mark) (λ (e : DeclaredEdge). is_edge_mark e.mark) c.args.side.now (sym c.nodes.invariant ∙ all_ended _ c.as_slice-node-items.result.now c.nodes.node-index c.nodes-test.false)
    (sym c.edges.invariant ∙ all_fails _ xs c.edges.edge-index _ (item_at xs _ _ c.edges-test.true c.edge-item.is) (sym c.is_edge_mark.ensures ∙ c.if-not-is_edge_mark.true))

pub returns : goal.returns
returns c =
    none_fails (λ (n : DeclaredNode). is_node_mark n.mark) (λ (e : DeclaredEdge). is_edge_mark e.mark) c.args.side.now (sym c.nodes.invariant ∙ all_ended _ c.as_slice-node-items.result.now c.nodes.node-index c.nodes-test.false)
    (sym c.edges.invariant ∙ all_ended _ c.as_slice-edge-items.result.now c.edges.edge-index c.edges-test.false)

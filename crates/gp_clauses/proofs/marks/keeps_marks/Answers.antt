use Rattle.std.proofs.Common.{◌∙◌, sym}
use Rattle.gp_syntax.specs.Fault.{keeps_node_mark, keeps_edge_mark}
use Rattle.gp_syntax.specs.Tree.{declaration_of}
use Rattle.gp_clauses.proofs.Walks.{all_fails, all_ended, item_at}
use Rattle.gp_clauses.proofs.Parts.{some_node_fails, some_edge_fails, none_fails}
use Rattle.gp_clauses.proofs.marks.keeps_marks.Goals as goal

pub returns-then-not-keeps_node_mark : goal.returns-then-not-keeps_node_mark
returns-then-not-keeps_node_mark c =
    let xs = c.as_slice-node-items.result.now in
    some_node_fails (keeps_node_mark (declaration_of c.args.rule.now)) (keeps_edge_mark (declaration_of c.args.rule.now)) c.args.rule.now.right (sym c.nodes.invariant ∙ all_fails _ xs c.nodes.node-index _ (item_at xs _ _ c.nodes-test.true c.node-item.is) (sym c.keeps_node_mark.ensures ∙ c.if-not-keeps_node_mark.true))

pub returns-then-not-keeps_edge_mark : goal.returns-then-not-keeps_edge_mark
returns-then-not-keeps_edge_mark c =
    let xs = c.as_slice-edge-items.result.now in
    some_edge_fails (keeps_node_mark (declaration_of c.args.rule.now)) (keeps_edge_mark (declaration_of c.args.rule.now)) c.args.rule.now.right (sym c.nodes.invariant ∙ all_ended _ c.as_slice-node-items.result.now c.nodes.node-index c.nodes-test.false)
    (sym c.edges.invariant ∙ all_fails _ xs c.edges.edge-index _ (item_at xs _ _ c.edges-test.true c.edge-item.is) (sym c.keeps_edge_mark.ensures ∙ c.if-not-keeps_edge_mark.true))

pub returns : goal.returns
returns c =
    none_fails (keeps_node_mark (declaration_of c.args.rule.now)) (keeps_edge_mark (declaration_of c.args.rule.now)) c.args.rule.now.right (sym c.nodes.invariant ∙ all_ended _ c.as_slice-node-items.result.now c.nodes.node-index c.nodes-test.false)
    (sym c.edges.invariant ∙ all_ended _ c.as_slice-edge-items.result.now c.edges.edge-index c.edges-test.false)

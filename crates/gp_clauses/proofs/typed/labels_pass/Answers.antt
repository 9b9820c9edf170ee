use Rattle.std.proofs.Common.{◌∙◌, sym}
use Rattle.gp_clauses.specs.inside.Labels.{passes}
use Rattle.gp_clauses.specs.inside.Tables.{type_by}
use Rattle.gp_clauses.proofs.Walks.{all_fails, all_ended, item_at}
use Rattle.gp_clauses.proofs.Parts.{node_fails, edge_fails, both_pass}
use Rattle.gp_clauses.proofs.typed.labels_pass.Goals as goal

pub returns-then-not-passes : goal.returns-then-not-passes
returns-then-not-passes c =
    let xs = c.as_slice-node-items.result.now in
    node_fails (passes c.args.clause (type_by c.args.variables.now)) c.args.side.now
    (sym c.nodes.invariant ∙ all_fails _ xs c.nodes.node-index _ (item_at xs _ _ c.nodes-test.true c.node-item.is) (sym c.passes.ensures ∙ c.if-not-passes.true))

pub returns-then-not-passes-2 : goal.returns-then-not-passes-2
returns-then-not-passes-2 c =
    let xs = c.as_slice-edge-items.result.now in
    edge_fails (passes c.args.clause (type_by c.args.variables.now)) c.args.side.now (sym c.nodes.invariant ∙ all_ended _ c.as_slice-node-items.result.now c.nodes.node-index c.nodes-test.false)
    (sym c.edges.invariant ∙ all_fails _ xs c.edges.edge-index _ (item_at xs _ _ c.edges-test.true c.edge-item.is) (sym c.passes-in-edges.ensures ∙ c.if-not-passes-2.true))

pub returns : goal.returns
returns c =
    both_pass (passes c.args.clause (type_by c.args.variables.now)) c.args.side.now (sym c.nodes.invariant ∙ all_ended _ c.as_slice-node-items.result.now c.nodes.node-index c.nodes-test.false)
    (sym c.edges.invariant ∙ all_ended _ c.as_slice-edge-items.result.now c.edges.edge-index c.edges-test.false)

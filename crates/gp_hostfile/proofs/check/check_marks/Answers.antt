use Rattle.std.proofs.Common.{refl}
use Rattle.std.proofs.lemmas.Result.{err_from_is_err_and}
use Rattle.gp_hostfile.specs.inside.Stages.{node_mark_fault, edge_mark_fault}
use Rattle.gp_hostfile.proofs.Faults.{first_refused, then_refused, none_refused}
use Rattle.gp_hostfile.proofs.Finding.{found_goes_on, found_stops, found_ends}
use Rattle.gp_hostfile.proofs.check.check_marks.Goals as goal

pub returns-in_err-node_mark : goal.returns-in_err-node_mark
returns-in_err-node_mark c =
    let p = err_from_is_err_and c.from_residual.result c.from_residual.ensures.1 in
    let e = c.in_err-node_mark.field-0.0 in
    rw (p.1, p.2) (first_refused e _ _ (found_stops node_mark_fault c.as_slice-node-items.result.now c.loop-node.node-index c.node-item.result c.loop-node-test.true c.node-item.is _ c.loop-node.invariant e c.in_err-node_mark.ensures))

pub loop-node-preserved : goal.loop-node-preserved
loop-node-preserved c = found_goes_on node_mark_fault c.as_slice-node-items.result.now c.loop-node.node-index c.node-item.result c.loop-node-test.true c.node-item.is _ c.loop-node.invariant (rw c.in_ok-node_mark.ensures refl)

pub returns-in_err-edge_mark : goal.returns-in_err-edge_mark
returns-in_err-edge_mark c =
    let p = err_from_is_err_and c.from_residual-in_err-edge_mark.result c.from_residual-in_err-edge_mark.ensures.1 in
    let e = c.in_err-edge_mark.field-0.0 in
    rw (p.1, p.2) (then_refused e _ _ (found_ends node_mark_fault c.as_slice-node-items.result.now c.loop-node.node-index _ c.loop-node-test.false c.loop-node.invariant)
    (found_stops edge_mark_fault c.as_slice-edge-items.result.now c.loop-edge.edge-index c.edge-item.result c.loop-edge-test.true c.edge-item.is _ c.loop-edge.invariant e c.in_err-edge_mark.ensures))

pub loop-edge-preserved : goal.loop-edge-preserved
loop-edge-preserved c = found_goes_on edge_mark_fault c.as_slice-edge-items.result.now c.loop-edge.edge-index c.edge-item.result c.loop-edge-test.true c.edge-item.is _ c.loop-edge.invariant (rw c.in_ok-edge_mark.ensures refl)

pub returns : goal.returns
returns c =
    none_refused _ _ (found_ends node_mark_fault c.as_slice-node-items.result.now c.loop-node.node-index _ c.loop-node-test.false c.loop-node.invariant)
    (found_ends edge_mark_fault c.as_slice-edge-items.result.now c.loop-edge.edge-index _ c.loop-edge-test.false c.loop-edge.invariant)

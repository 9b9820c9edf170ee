use Rattle.std.proofs.lemmas.Result.{err_from_is_err_and}
use Rattle.gp_hostfile.specs.inside.Stages.{label_fault}
use Rattle.gp_hostfile.specs.declared.tree.NodeTree.{NodeTree}
use Rattle.gp_hostfile.specs.declared.tree.EdgeTree.{EdgeTree}
use Rattle.gp_hostfile.proofs.Faults.{first_refused, then_refused, none_refused}
use Rattle.gp_hostfile.proofs.Finding.{found_goes_on, found_stops, found_ends}
use Rattle.gp_hostfile.proofs.check.check_numbers.Goals as goal

pub returns-in_err-check_label : goal.returns-in_err-check_label
returns-in_err-check_label c =
    let p = err_from_is_err_and c.from_residual.result c.from_residual.ensures.1 in
    let e = c.in_err-check_label.field-0.0 in
    rw (p.1, p.2) (first_refused e _ _ (found_stops (λ (n : NodeTree). label_fault n.label) c.as_slice-node-items.result.now c.loop-node.node-index c.node-item.result c.loop-node-test.true c.node-item.is _ c.loop-node.invariant e (rw c.as_slice.ensures at c.in_err-check_label.ensures)))

pub loop-node-preserved : goal.loop-node-preserved
loop-node-preserved c = found_goes_on (λ (n : NodeTree). label_fault n.label) c.as_slice-node-items.result.now c.loop-node.node-index c.node-item.result c.loop-node-test.true c.node-item.is _ c.loop-node.invariant (rw c.as_slice.ensures at c.in_ok-check_label.ensures)

pub returns-in_err-check_label-2 : goal.returns-in_err-check_label-2
returns-in_err-check_label-2 c =
    let p = err_from_is_err_and c.from_residual-in_err-check_label-2.result c.from_residual-in_err-check_label-2.ensures.1 in
    let e = c.in_err-check_label-2.field-0.0 in
    rw (p.1, p.2) (then_refused e _ _ (found_ends (λ (n : NodeTree). label_fault n.label) c.as_slice-node-items.result.now c.loop-node.node-index _ c.loop-node-test.false c.loop-node.invariant)
    (found_stops (λ (n : EdgeTree). label_fault n.label) c.as_slice-edge-items.result.now c.loop-edge.edge-index c.edge-item.result c.loop-edge-test.true c.edge-item.is _ c.loop-edge.invariant e (rw c.as_slice-in-loop-edge.ensures at c.in_err-check_label-2.ensures)))

pub loop-edge-preserved : goal.loop-edge-preserved
loop-edge-preserved c = found_goes_on (λ (n : EdgeTree). label_fault n.label) c.as_slice-edge-items.result.now c.loop-edge.edge-index c.edge-item.result c.loop-edge-test.true c.edge-item.is _ c.loop-edge.invariant (rw c.as_slice-in-loop-edge.ensures at c.in_ok-check_label-2.ensures)

pub returns : goal.returns
returns c =
    none_refused _ _ (found_ends (λ (n : NodeTree). label_fault n.label) c.as_slice-node-items.result.now c.loop-node.node-index _ c.loop-node-test.false c.loop-node.invariant)
    (found_ends (λ (n : EdgeTree). label_fault n.label) c.as_slice-edge-items.result.now c.loop-edge.edge-index _ c.loop-edge-test.false c.loop-edge.invariant)

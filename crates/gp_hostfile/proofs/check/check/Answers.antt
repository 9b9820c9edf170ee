use Rattle.std.proofs.lemmas.Result.{err_from_is_err_and}
use Rattle.gp_hostfile.specs.inside.Stages.{tree_in}
use Rattle.gp_hostfile.proofs.Faults.{number_stops, two_nodes_stop, two_edges_stop, end_stops, mark_stops, none_stops}
use Rattle.gp_hostfile.proofs.check.check.Goals as goal

pub returns-in_err-check_numbers-clause-fault : goal.returns-in_err-check_numbers-clause-fault
returns-in_err-check_numbers-clause-fault c =
    let p = err_from_is_err_and c.from_residual.result c.from_residual.ensures.1 in
    rw (p.1, p.2) (number_stops (tree_in c.args.tree.now) c.in_err-check_numbers.field-0.0 c.in_err-check_numbers.ensures)

pub returns-in_err-nodes-clause-fault : goal.returns-in_err-nodes-clause-fault
returns-in_err-nodes-clause-fault c =
    let p = err_from_is_err_and c.from_residual-in_err-nodes.result c.from_residual-in_err-nodes.ensures.1 in
    rw (p.1, p.2) (two_nodes_stop (tree_in c.args.tree.now) c.in_err-nodes.field-0.0 c.in_ok-check_numbers.ensures (rw c.deref.ensures.value at c.in_err-nodes.ensures.fault))

pub returns-in_err-check_edge_names-clause-fault : goal.returns-in_err-check_edge_names-clause-fault
returns-in_err-check_edge_names-clause-fault c =
    let p = err_from_is_err_and c.from_residual-in_err-check_edge_names.result c.from_residual-in_err-check_edge_names.ensures.1 in
    rw (p.1, p.2) (two_edges_stop (tree_in c.args.tree.now) c.in_err-check_edge_names.field-0.0 c.in_ok-check_numbers.ensures (rw c.deref.ensures.value at c.in_ok-nodes.ensures.fault) (rw c.deref-2.ensures.value at c.in_err-check_edge_names.ensures))

pub returns-in_err-ends-clause-fault : goal.returns-in_err-ends-clause-fault
returns-in_err-ends-clause-fault c =
    let p = err_from_is_err_and c.from_residual-in_err-ends.result c.from_residual-in_err-ends.ensures.1 in
    rw (p.1, p.2) (end_stops (tree_in c.args.tree.now) c.in_err-ends.field-0.0 c.in_ok-check_numbers.ensures (rw c.deref.ensures.value at c.in_ok-nodes.ensures.fault) (rw c.deref-2.ensures.value at c.in_ok-check_edge_names.ensures) (rw (c.deref-3.ensures.value, c.in_ok-nodes.ensures.names, c.deref.ensures.value) at c.in_err-ends.ensures.fault))

pub returns-in_err-check_marks-clause-fault : goal.returns-in_err-check_marks-clause-fault
returns-in_err-check_marks-clause-fault c =
    let p = err_from_is_err_and c.from_residual-in_err-check_marks.result c.from_residual-in_err-check_marks.ensures.1 in
    rw (p.1, p.2) (mark_stops (tree_in c.args.tree.now) c.in_err-check_marks.field-0.0 c.in_ok-check_numbers.ensures (rw c.deref.ensures.value at c.in_ok-nodes.ensures.fault) (rw c.deref-2.ensures.value at c.in_ok-check_edge_names.ensures) (rw (c.deref-3.ensures.value, c.in_ok-nodes.ensures.names, c.deref.ensures.value) at c.in_ok-ends.ensures.fault) c.in_err-check_marks.ensures)

pub returns-clause-fault : goal.returns-clause-fault
returns-clause-fault c = none_stops (tree_in c.args.tree.now) c.in_ok-check_numbers.ensures (rw c.deref.ensures.value at c.in_ok-nodes.ensures.fault) (rw c.deref-2.ensures.value at c.in_ok-check_edge_names.ensures) (rw (c.deref-3.ensures.value, c.in_ok-nodes.ensures.names, c.deref.ensures.value) at c.in_ok-ends.ensures.fault) c.in_ok-check_marks.ensures

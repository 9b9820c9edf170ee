use Rattle.gp_syntax.specs.Tree.{declaration_of}
use Rattle.gp_syntax.specs.Fault.{fault_of}
use Rattle.gp_check.proofs.Wholes.{told_by, simple_labels, names_stop, labels_stop, marks_stop, none_stop}
use Rattle.gp_check.proofs.check.checked_scope.Goals as goal

pub returns-in_err-check_names-clause-fault : goal.returns-in_err-check_names-clause-fault
returns-in_err-check_names-clause-fault c =
    let d = declaration_of c.args.rule.now in
    let e = c.in_err-check_names.field-0.0 in
    told_by (fault_of d) e c.from_residual.result c.from_residual.ensures.1 (names_stop d e c.in_err-check_names.ensures)

pub returns-in_err-check_labels-clause-fault : goal.returns-in_err-check_labels-clause-fault
returns-in_err-check_labels-clause-fault c =
    let d = declaration_of c.args.rule.now in
    let e = c.in_err-check_labels.field-0.0 in
    told_by (fault_of d) e c.from_residual-in_err-check_labels.result c.from_residual-in_err-check_labels.ensures.1 (labels_stop d e c.in_ok-check_names.ensures c.in_err-check_labels.ensures)

pub returns-in_err-check_marks-clause-fault : goal.returns-in_err-check_marks-clause-fault
returns-in_err-check_marks-clause-fault c =
    let d = declaration_of c.args.rule.now in
    let e = c.in_err-check_marks.field-0.0 in
    told_by (fault_of d) e c.from_residual-in_err-check_marks.result c.from_residual-in_err-check_marks.ensures.1 (marks_stop d e c.in_ok-check_names.ensures c.in_ok-check_labels.ensures c.in_err-check_marks.ensures)

pub returns-clause-simple : goal.returns-clause-simple
returns-clause-simple c = simple_labels (declaration_of c.args.rule.now) c.in_ok-check_labels.ensures

pub returns-clause-fault : goal.returns-clause-fault
returns-clause-fault c = none_stop (declaration_of c.args.rule.now) c.in_ok-check_names.ensures c.in_ok-check_labels.ensures c.in_ok-check_marks.ensures

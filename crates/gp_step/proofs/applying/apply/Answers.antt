use Rattle.std.proofs.Common.{subst, sym}
use Rattle.gp_syntax.specs.Step.{AppliesBy}
use Rattle.gp_syntax.specs.Tree.{rule_of_tree}
use Rattle.gp_step.proofs.Makes.{assignment_is, itself}
use Rattle.gp_step.proofs.applying.apply.Goals as goal

pub apply_told-requires-clause-applies : goal.apply_told-requires-clause-applies
apply_told-requires-clause-applies c =
    let r = rule_of_tree c.args.rule.now in
    let i = assignment_is r c.args.graph.now.graph c.args.found.now c.in_ok-assignment.field-0 c.in-Some.assignment c.requires c.in_ok-assignment.ensures.of_match c.in-Some.is in
    subst (AppliesBy r c.args.graph.now.graph c.args.found.now) (sym i.values) c.requires.1

pub apply_told-requires-clause-told : goal.apply_told-requires-clause-told
apply_told-requires-clause-told c =
    let r = rule_of_tree c.args.rule.now in
    itself r _ _ (assignment_is r c.args.graph.now.graph c.args.found.now c.in_ok-assignment.field-0 c.in-Some.assignment c.requires c.in_ok-assignment.ensures.of_match c.in-Some.is)

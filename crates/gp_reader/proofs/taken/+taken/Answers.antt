use Rattle.std.proofs.Common.{rules, ◌≡◌, ◌∙◌, ◌+◌, ap}
use Rattle.gp_scope.specs.Surveys.{weight, weights}
use Rattle.gp_scope.proofs.Outlines.{weight-Procedure}
use Rattle.gp_reader.proofs.Joined.{on_ok}
use Rattle.gp_reader.proofs.Takes.{rule_taken, procedure_taken, last_weighs}
use Rattle.gp_reader.proofs.taken.+taken.Goals as goal

pub take_own-returns-in-Rule : goal.take_own-returns-in-Rule
take_own-returns-in-Rule t c = rule_taken c.args.declaration c.in-Rule.rule c.args.taken.now c.push.new.self c.in-Rule.is c.in_ok-push-in-Rule.ensures.ok

pub take_each-take_own-requires : goal.take_each-take_own-requires
take_each-take_own-requires t c =
    let w = last_weighs c.args.declarations c.each.left c.pop.new.self c.each.invariant.0 c.in-Some.declaration c.each.invariant.1.0 c.in-Some.ensures in
    (search rules, tt)

pub take_own-take_each-requires : goal.take_own-take_each-requires
take_own-take_each-requires t c =
    let w : weight c.args.declaration ≡ 1 + weights c.in-Procedure.declarations = ap weight c.in-Procedure.is ∙ weight-Procedure c.in-Procedure.name c.in-Procedure.declarations c.in-Procedure.body in
    (search rules, tt)

pub take_own-returns : goal.take_own-returns
take_own-returns t c =
    let p = c.in-Procedure in
    on_ok c.take_each.result _ _ (λ e. procedure_taken c.args.declaration p.name p.declarations p.body c.args.taken.now c.take_each.new.taken p.is e) c.take_each.ensures

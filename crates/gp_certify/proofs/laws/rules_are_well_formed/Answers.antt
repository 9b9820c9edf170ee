use Rattle.std.proofs.Common.{List, All, map, subst, arith}
use Rattle.std.proofs.lemmas.List.{take_all}
use Rattle.gp_syntax.specs.declared.rule.RuleParts.{RuleParts}
use Rattle.gp_syntax.specs.Tree.{rule_of_tree}
use Rattle.gp_syntax.specs.WellFormed.{IsWellFormed}
use Rattle.gp_certify.proofs.Walks.{one_rule_more}
use Rattle.gp_certify.proofs.laws.rules_are_well_formed.Goals as goal

pub loop-rule-preserved : goal.loop-rule-preserved
loop-rule-preserved c = one_rule_more c.args.rules.now c.loop-rule.rule-index c.rule-item.result c.loop-rule-test.true c.rule-item.is c.loop-rule.invariant c.parts-well_formed.ensures.well_formed

pub returns : goal.returns
returns c = subst (λ (rs : List RuleParts). All IsWellFormed (map rule_of_tree rs)) (take_all c.loop-rule.rule-index c.args.rules.now (omega (arith, c.loop-rule-test.false))) c.loop-rule.invariant

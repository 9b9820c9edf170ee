use Rattle.std.proofs.Common.{◌∙◌, ◌<◌, List, length, sym, ap, subst}
use Rattle.gp_syntax.specs.declared.rule.RuleParts.{RuleParts}
use Rattle.gp_syntax.specs.Tree.{rule_of_tree}
use Rattle.gp_plan.specs.Plan.{plan_of}
use Rattle.gp_plan.proofs.Pairs.{plan_here}
use Rattle.gp_plan.proofs.planned.Planned.at.Goals as goal

pub returns-clause-plan : goal.returns-clause-plan
returns-clause-plan c =
    sym c.index-self-number-2.is ∙ plan_here _ _ _ _ _ c.self.invariant (subst (λ (rs : List RuleParts). c.args.number < length rs) (sym c.self.view_is) c.requires) c.index-self-number.is c.index-self-number-2.is
    ∙ ap (λ (r : RuleParts). plan_of (rule_of_tree r)) c.index-self-number.is

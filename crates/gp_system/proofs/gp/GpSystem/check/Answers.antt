use Rattle.std.proofs.Common.{◌∙◌, ◌-◌, List, sym, ap, subst, arith}
use Rattle.opt_system.specs.Answers.{IsVerdictOf}
use Rattle.opt_system.specs.declared.answers.Verdict.{Verdict}
use Rattle.gp_syntax.specs.declared.rule.RuleParts.{RuleParts}
use Rattle.gp_system.specs.declared.goal.Fault.{Fault}
use Rattle.gp_system.specs.Gp.{gp_means}
use Rattle.gp_system.proofs.Systems.{system, checks}
use Rattle.gp_system.proofs.gp.GpSystem.check.Goals as goal

pub returns : goal.returns
returns c =
    subst (λ (v : Verdict Fault). IsVerdictOf v ((gp_means c.args.self.now).judged c.args.goal c.args.at.now c.args.found.now)) (sym c.numbered.ensures)
    (checks c.args.self.now c.rules-rules.result.now c.self.inside.sets.now (c.self.inside.shares - 1) c.args.goal c.args.at.now c.graph.result.now.graph c.args.found.now c.index-self-call.result c.as_slice.result.now c.rule-rule.result c.index-rules-rule.result c.check_match-verdict.result (ap (λ (rs : List RuleParts). system rs c.self.inside.sets.now (c.self.inside.shares - 1)) c.rules-rules.ensures ∙ c.self.view_is) (omega (arith, c.if-call-self.false)) c.as_slice.ensures
    c.rule-rule.ensures (sym c.has.ensures ∙ c.if-not-has.false) (omega (arith, c.if-rule-rules.false)) c.index-rules-rule.is
    c.parts-well_formed.ensures.well_formed c.graph.ensures
    c.check_match-verdict.ensures)

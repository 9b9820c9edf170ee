use Rattle.std.proofs.Common.{◌∙◌, ◌-◌, List, All, map, sym, ap, subst}
use Rattle.gp_syntax.specs.declared.rule.RuleParts.{RuleParts}
use Rattle.gp_syntax.specs.Tree.{rule_of_tree}
use Rattle.gp_syntax.specs.WellFormed.{IsWellFormed}
use Rattle.gp_system.proofs.Systems.{system, may_advance}
use Rattle.gp_system.proofs.gp.GpSystem.apply.Goals as goal

pub advance-requires : goal.advance-requires
advance-requires c =
    may_advance c.args.self.now c.rules.result.now c.self.inside.sets.now (c.self.inside.shares - 1) c.args.at.now c.args.found.now (ap (λ (rs : List RuleParts). system rs c.self.inside.sets.now (c.self.inside.shares - 1)) c.rules.ensures ∙ c.self.view_is)
    (subst (λ (rs : List RuleParts). All IsWellFormed (map rule_of_tree rs)) (sym c.rules.ensures) c.self.invariant.1.well_formed) c.requires

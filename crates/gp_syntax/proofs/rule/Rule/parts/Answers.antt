use Rattle.gp_syntax.specs.Tree.{rule_of_tree}
use Rattle.gp_syntax.proofs.CheckedRules.{checked_are_well_formed}
use Rattle.gp_syntax.proofs.rule.Rule.parts.Goals as goal

pub returns-clause-well_formed : goal.returns-clause-well_formed
returns-clause-well_formed c = checked_are_well_formed (rule_of_tree c.args.self.now) (rw (← c.self.view_is) c.self.invariant)

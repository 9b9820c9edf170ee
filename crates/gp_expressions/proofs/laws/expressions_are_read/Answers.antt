use Rattle.gp_expressions.proofs.ListLaws.{list_fits}
use Rattle.gp_expressions.proofs.ConditionLaws.{condition_fits}
use Rattle.gp_expressions.proofs.laws.expressions_are_read.Goals as goal

pub returns-clause-lists : goal.returns-clause-lists
returns-clause-lists c = list_fits

pub returns-clause-conditions : goal.returns-clause-conditions
returns-clause-conditions c = condition_fits

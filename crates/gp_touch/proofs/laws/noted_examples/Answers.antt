use Rattle.gp_touch.proofs.Rows.{one_end_is_enough, one_end_is_not_enough, what_goes_is_seen}
use Rattle.gp_touch.proofs.laws.noted_examples.Goals as goal

pub returns-clause-enough : goal.returns-clause-enough
returns-clause-enough c = one_end_is_enough

pub returns-clause-not_enough : goal.returns-clause-not_enough
returns-clause-not_enough c = one_end_is_not_enough

pub returns-clause-gone : goal.returns-clause-gone
returns-clause-gone c = what_goes_is_seen

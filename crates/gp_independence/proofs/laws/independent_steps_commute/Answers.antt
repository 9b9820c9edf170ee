use Rattle.gp_independence.proofs.Orders.{steps_commute}
use Rattle.gp_independence.proofs.laws.independent_steps_commute.Goals as goal

pub returns : goal.returns
returns c = steps_commute

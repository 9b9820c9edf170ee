use Rattle.gp_step.proofs.Wholes.{one_step_on}
use Rattle.gp_step.proofs.laws.matches_lead_on.Goals as goal

pub returns : goal.returns
returns c = one_step_on

use Rattle.gp_unify.proofs.Candidates.{one_step}
use Rattle.gp_unify.proofs.laws.step_is_unique.Goals as goal

pub returns : goal.returns
returns c = one_step

use Rattle.gp_derivation.proofs.OneStep.{one_step_anew}
use Rattle.gp_derivation.proofs.laws.step_anew_is_unique.Goals as goal

pub returns : goal.returns
returns c = one_step_anew

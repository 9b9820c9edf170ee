use Rattle.gp_derivation.proofs.Unique.{all_replay}
use Rattle.gp_derivation.proofs.laws.steppers_replay.Goals as goal

pub returns : goal.returns
returns c = all_replay

use Rattle.gp_derivation.proofs.Unique.{all_inverse}
use Rattle.gp_derivation.proofs.laws.moves_are_inverse.Goals as goal

pub returns : goal.returns
returns c = all_inverse

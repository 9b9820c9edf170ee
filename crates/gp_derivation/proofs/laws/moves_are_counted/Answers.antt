use Rattle.gp_derivation.proofs.Counted.{all_counted}
use Rattle.gp_derivation.proofs.laws.moves_are_counted.Goals as goal

pub returns : goal.returns
returns c = all_counted

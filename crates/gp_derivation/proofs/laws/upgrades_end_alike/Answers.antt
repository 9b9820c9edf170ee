use Rattle.gp_derivation.proofs.Twins.{same_ends}
use Rattle.gp_derivation.proofs.laws.upgrades_end_alike.Goals as goal

pub returns : goal.returns
returns c = same_ends

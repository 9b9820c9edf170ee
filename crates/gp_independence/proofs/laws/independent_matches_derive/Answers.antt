use Rattle.gp_independence.proofs.Lists.{matches_derive}
use Rattle.gp_independence.proofs.laws.independent_matches_derive.Goals as goal

pub returns : goal.returns
returns c = matches_derive

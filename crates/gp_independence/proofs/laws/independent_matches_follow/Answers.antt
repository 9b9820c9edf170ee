use Rattle.gp_independence.proofs.Lists.{matches_follow}
use Rattle.gp_independence.proofs.laws.independent_matches_follow.Goals as goal

pub returns : goal.returns
returns c = matches_follow

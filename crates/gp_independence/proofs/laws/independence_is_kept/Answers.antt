use Rattle.gp_independence.proofs.Kept.{independence_kept}
use Rattle.gp_independence.proofs.laws.independence_is_kept.Goals as goal

pub returns : goal.returns
returns c = independence_kept

use Rattle.gp_tokens.proofs.Wants.{excluded}
use Rattle.gp_tokens.proofs.laws.wants_are_apart.Goals as goal

pub returns : goal.returns
returns c = excluded

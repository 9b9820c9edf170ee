use Rattle.gp_check.proofs.Pushes.{or_grown}
use Rattle.gp_check.proofs.chains.either.Goals as goal

pub returns : goal.returns
returns c = or_grown c.args.total c.into_any.result c.args.part (c.in_ok-first.first, c.in_ok-first.rest) c.into_any.ensures c.in_ok-first.ensures

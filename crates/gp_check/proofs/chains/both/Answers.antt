use Rattle.gp_check.proofs.Pushes.{and_grown}
use Rattle.gp_check.proofs.chains.both.Goals as goal

pub returns : goal.returns
returns c = and_grown c.args.total c.into_all.result c.args.part (c.in_ok-first.first, c.in_ok-first.rest) c.into_all.ensures c.in_ok-first.ensures

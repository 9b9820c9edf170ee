use Rattle.gp_check.proofs.Pushes.{join_label_grown}
use Rattle.gp_check.proofs.chains.joined_label.Goals as goal

pub returns : goal.returns
returns c = join_label_grown c.args.total c.into_joins.result c.args.part (c.in_ok-first.first, c.in_ok-first.rest) c.into_joins.ensures c.in_ok-first.ensures

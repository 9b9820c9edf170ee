use Rattle.gp_check.proofs.Pushes.{dot_label_grown}
use Rattle.gp_check.proofs.chains.dotted_label.Goals as goal

pub returns : goal.returns
returns c = dot_label_grown c.args.total c.into_dots.result c.args.part (c.in_ok-first.first, c.in_ok-first.rest) c.into_dots.ensures c.in_ok-first.ensures

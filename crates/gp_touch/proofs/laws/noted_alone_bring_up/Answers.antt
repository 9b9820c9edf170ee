use Rattle.gp_touch.proofs.Long.{noted_bring_up}
use Rattle.gp_touch.proofs.laws.noted_alone_bring_up.Goals as goal

pub returns : goal.returns
returns c = noted_bring_up

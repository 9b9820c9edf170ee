use Rattle.gp_touch.proofs.Ends.{noted_unblock}
use Rattle.gp_touch.proofs.laws.noted_alone_unblock.Goals as goal

pub returns : goal.returns
returns c = noted_unblock

use Rattle.gp_touch.proofs.Ends.{added_bring_up}
use Rattle.gp_touch.proofs.laws.added_alone_bring_up.Goals as goal

pub returns : goal.returns
returns c = added_bring_up

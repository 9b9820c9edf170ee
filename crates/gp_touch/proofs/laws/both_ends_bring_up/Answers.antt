use Rattle.gp_touch.proofs.Ends.{both_ends_bring_up}
use Rattle.gp_touch.proofs.laws.both_ends_bring_up.Goals as goal

pub returns : goal.returns
returns c = both_ends_bring_up

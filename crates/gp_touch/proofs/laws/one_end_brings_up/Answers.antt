use Rattle.gp_touch.proofs.Ends.{one_end_brings_up}
use Rattle.gp_touch.proofs.laws.one_end_brings_up.Goals as goal

pub returns : goal.returns
returns c = one_end_brings_up

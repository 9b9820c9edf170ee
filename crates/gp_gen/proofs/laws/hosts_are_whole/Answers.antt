use Rattle.gp_gen.proofs.Whole.{whole}
use Rattle.gp_gen.proofs.laws.hosts_are_whole.Goals as goal

pub returns : goal.returns
returns c = whole

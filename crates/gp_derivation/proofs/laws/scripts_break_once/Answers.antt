use Rattle.gp_derivation.proofs.Words.{breaks_once}
use Rattle.gp_derivation.proofs.laws.scripts_break_once.Goals as goal

pub returns : goal.returns
returns c = breaks_once

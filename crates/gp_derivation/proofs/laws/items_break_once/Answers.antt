use Rattle.gp_derivation.proofs.Breaks.{told}
use Rattle.gp_derivation.proofs.laws.items_break_once.Goals as goal

pub returns : goal.returns
returns c = told

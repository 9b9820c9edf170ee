use Rattle.gp_trace.proofs.Told.{breaks_told}
use Rattle.gp_trace.proofs.laws.texts_break_once.Goals as goal

pub returns : goal.returns
returns c = breaks_told

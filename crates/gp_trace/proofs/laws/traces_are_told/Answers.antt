use Rattle.gp_trace.proofs.Told.{told}
use Rattle.gp_trace.proofs.laws.traces_are_told.Goals as goal

pub returns : goal.returns
returns c = told

use Rattle.gp_hostfile.proofs.Lines.{some_text, one_text}
use Rattle.gp_hostfile.proofs.laws.graphs_have_one_text.Goals as goal

pub returns : goal.returns
returns c = record { some = some_text; no_other = one_text }

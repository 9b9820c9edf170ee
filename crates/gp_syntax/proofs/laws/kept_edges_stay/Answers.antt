use Rattle.gp_syntax.proofs.KeptEdges.{kept_edges_stay}
use Rattle.gp_syntax.proofs.laws.kept_edges_stay.Goals as goal

pub returns : goal.returns
returns c = kept_edges_stay

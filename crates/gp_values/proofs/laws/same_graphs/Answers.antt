use Rattle.gp_values.proofs.Graphs.{same_graph}
use Rattle.gp_values.proofs.laws.same_graphs.Goals as goal

pub returns : goal.returns
returns c = same_graph

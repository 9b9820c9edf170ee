use Rattle.gp_hostfile.proofs.ReadBack.{read_back}
use Rattle.gp_hostfile.proofs.laws.graph_texts_are_read_back.Goals as goal

pub returns : goal.returns
returns c = read_back

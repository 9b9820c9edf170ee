use Rattle.gp_hostfile.proofs.Hosts.{one_host}
use Rattle.gp_hostfile.proofs.laws.host_texts_have_one_graph.Goals as goal

pub returns : goal.returns
returns c = one_host

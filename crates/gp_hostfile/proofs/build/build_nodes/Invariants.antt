use Rattle.std.proofs.Common.{◌≡◌, drop}
use Rattle.gp_hostfile.specs.inside.Stages.{nodes_made}
use Rattle.gp_hostfile.proofs.build.build_nodes.Given as goal

abbrev pub invariant-loop-node : goal.invariant-loop-node
invariant-loop-node l = nodes_made (drop l.node-index l.nodes) l.graph.graph ≡ nodes_made l.nodes l.fn.graph.graph

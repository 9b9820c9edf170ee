use Rattle.std.proofs.Common.{◌≡◌, drop}
use Rattle.gp_hostfile.specs.inside.Stages.{AreNodes, edges_made}
use Rattle.gp_hostfile.proofs.build.build_edges.Given as goal

abbrev pub invariant-edges : goal.invariant-edges
invariant-edges l = (edges_made l.names.nodes (drop l.i l.edges) l.graph.graph ≡ edges_made l.names.nodes l.edges l.initial.graph.graph) × AreNodes l.names.nodes l.graph.graph

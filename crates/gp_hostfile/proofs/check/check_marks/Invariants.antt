use Rattle.std.proofs.Common.{◌≡◌, drop}
use Rattle.gp_hostfile.specs.Host.{first_found}
use Rattle.gp_hostfile.specs.inside.Stages.{node_mark_fault, edge_mark_fault}
use Rattle.gp_hostfile.proofs.check.check_marks.Given as goal

abbrev pub invariant-loop-node : goal.invariant-loop-node
invariant-loop-node l = first_found node_mark_fault (drop l.node-index l.node-items) ≡ first_found node_mark_fault l.tree.nodes.items

abbrev pub invariant-loop-edge : goal.invariant-loop-edge
invariant-loop-edge l = first_found edge_mark_fault (drop l.edge-index l.edge-items) ≡ first_found edge_mark_fault l.tree.edges.items

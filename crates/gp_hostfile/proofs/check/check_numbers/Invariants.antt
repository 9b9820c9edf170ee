use Rattle.std.proofs.Common.{◌≡◌, drop}
use Rattle.gp_hostfile.specs.Host.{first_found}
use Rattle.gp_hostfile.specs.inside.Stages.{label_fault}
use Rattle.gp_hostfile.specs.declared.tree.NodeTree.{NodeTree}
use Rattle.gp_hostfile.specs.declared.tree.EdgeTree.{EdgeTree}
use Rattle.gp_hostfile.proofs.check.check_numbers.Given as goal

abbrev pub invariant-loop-node : goal.invariant-loop-node
invariant-loop-node l = first_found (λ (n : NodeTree). label_fault n.label) (drop l.node-index l.node-items) ≡ first_found (λ (n : NodeTree). label_fault n.label) l.tree.nodes.items

abbrev pub invariant-loop-edge : goal.invariant-loop-edge
invariant-loop-edge l = first_found (λ (e : EdgeTree). label_fault e.label) (drop l.edge-index l.edge-items) ≡ first_found (λ (e : EdgeTree). label_fault e.label) l.tree.edges.items

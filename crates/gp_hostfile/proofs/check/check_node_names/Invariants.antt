use Rattle.std.proofs.Common.{◌≡◌, ◌++◌, map, drop}
use Rattle.gp_values.specs.Names.{first_doubled, first_doubled_behind}
use Rattle.gp_hostfile.specs.declared.tree.NodeTree.{NodeTree}
use Rattle.gp_hostfile.proofs.check.check_node_names.Given as goal

abbrev pub invariant-loop-node : goal.invariant-loop-node
invariant-loop-node l =
    (first_doubled_behind l.names (map (λ (n : NodeTree). n.name) (drop l.node-index l.nodes)) ≡ first_doubled (map (λ (n : NodeTree). n.name) l.nodes))
    × (l.names ++ map (λ (n : NodeTree). n.name) (drop l.node-index l.nodes) ≡ map (λ (n : NodeTree). n.name) l.nodes)

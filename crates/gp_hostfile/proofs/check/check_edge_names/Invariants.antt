use Rattle.std.proofs.Common.{◌≡◌, map, drop}
use Rattle.gp_values.specs.Names.{first_doubled, first_doubled_behind}
use Rattle.gp_hostfile.specs.declared.tree.EdgeTree.{EdgeTree}
use Rattle.gp_hostfile.proofs.check.check_edge_names.Given as goal

abbrev pub invariant-loop-edge : goal.invariant-loop-edge
invariant-loop-edge l = first_doubled_behind l.names (map (λ (e : EdgeTree). e.name) (drop l.edge-index l.edges)) ≡ first_doubled (map (λ (e : EdgeTree). e.name) l.edges)

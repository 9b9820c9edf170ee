use Rattle.std.proofs.Common.{◌≡◌, ◌++◌, map, drop}
use Rattle.gp_syntax.specs.Tree.{node_of, declaration_of, left_node_of}
use Rattle.gp_check.specs.inside.Placed.{left_node_at}
use Rattle.gp_check.proofs.build.left_nodes.Given as goal

abbrev pub invariant-loop-node : goal.invariant-loop-node
invariant-loop-node l =
    map left_node_of l.made ++ map (left_node_at l.variables (declaration_of l.rule)) (map node_of (drop l.node-index l.node-items)) ≡ map (left_node_at l.variables (declaration_of l.rule)) (map node_of l.rule.left.nodes)

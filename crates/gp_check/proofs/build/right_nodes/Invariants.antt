use Rattle.std.proofs.Common.{◌≡◌, ◌++◌, map, drop}
use Rattle.gp_syntax.specs.Tree.{node_of, declaration_of, right_node_of}
use Rattle.gp_check.specs.inside.Placed.{right_node_at}
use Rattle.gp_check.proofs.build.right_nodes.Given as goal

abbrev pub invariant-loop-node : goal.invariant-loop-node
invariant-loop-node l =
    map right_node_of l.made ++ map (right_node_at l.variables (declaration_of l.rule)) (map node_of (drop l.node-index l.node-items)) ≡ map (right_node_at l.variables (declaration_of l.rule)) (map node_of l.rule.right.nodes)

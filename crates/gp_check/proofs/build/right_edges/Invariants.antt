use Rattle.std.proofs.Common.{◌≡◌, ◌++◌, map, drop}
use Rattle.gp_syntax.specs.Tree.{edge_of, declaration_of, right_edge_of}
use Rattle.gp_check.specs.inside.Placed.{right_edge_at}
use Rattle.gp_check.proofs.build.right_edges.Given as goal

abbrev pub invariant-loop-edge : goal.invariant-loop-edge
invariant-loop-edge l =
    map right_edge_of l.made ++ map (right_edge_at l.variables (declaration_of l.rule)) (map edge_of (drop l.edge-index l.edge-items)) ≡ map (right_edge_at l.variables (declaration_of l.rule)) (map edge_of l.rule.right.edges)

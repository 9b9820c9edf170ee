use Rattle.std.proofs.Common.{◌≡◌, ◌++◌, map, drop}
use Rattle.gp_syntax.specs.Tree.{edge_of, declaration_of, left_edge_of}
use Rattle.gp_check.specs.inside.Placed.{left_edge_at}
use Rattle.gp_check.proofs.build.left_edges.Given as goal

abbrev pub invariant-loop-edge : goal.invariant-loop-edge
invariant-loop-edge l =
    map left_edge_of l.made ++ map (left_edge_at l.variables (declaration_of l.rule)) (map edge_of (drop l.edge-index l.edge-items)) ≡ map (left_edge_at l.variables (declaration_of l.rule)) (map edge_of l.rule.left.edges)

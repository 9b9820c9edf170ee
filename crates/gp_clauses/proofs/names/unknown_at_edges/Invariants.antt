use Rattle.std.proofs.Common.{◌≡◌, map, drop}
use Rattle.gp_syntax.specs.Fault.{first_told, unknown_at_edge}
use Rattle.gp_syntax.specs.Tree.{edge_of, side_of, declaration_of}
use Rattle.gp_clauses.proofs.names.unknown_at_edges.Given as goal

abbrev pub invariant-loop-edge : goal.invariant-loop-edge
invariant-loop-edge l = first_told (unknown_at_edge (declaration_of l.rule) (side_of l.side)) (map edge_of (drop l.edge-index l.edge-items)) ≡ first_told (unknown_at_edge (declaration_of l.rule) (side_of l.side)) (side_of l.side).edges

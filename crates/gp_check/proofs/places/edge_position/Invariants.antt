use Rattle.std.proofs.Common.{◌≡◌, map, drop}
use Rattle.std.specs.List.{position_from}
use Rattle.gp_values.specs.Names.{same_name, place_of}
use Rattle.gp_syntax.specs.Declaration.{DeclaredEdge, edge_names}
use Rattle.gp_syntax.specs.Tree.{edge_of, side_of}
use Rattle.gp_check.proofs.places.edge_position.Given as goal

abbrev pub invariant-loop-at : goal.invariant-loop-at
invariant-loop-at l = position_from (same_name l.name) l.at (map (λ (x : DeclaredEdge). x.name) (map edge_of (drop l.at l.edge-items))) ≡ place_of (edge_names (side_of l.side)) l.name

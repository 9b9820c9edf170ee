use Rattle.std.proofs.Common.{◌≡◌, map, drop}
use Rattle.std.specs.List.{position_from}
use Rattle.gp_values.specs.Names.{same_name, place_of}
use Rattle.gp_syntax.specs.Declaration.{DeclaredNode, node_names}
use Rattle.gp_syntax.specs.Tree.{node_of, side_of}
use Rattle.gp_check.proofs.places.node_position.Given as goal

abbrev pub invariant-loop-at : goal.invariant-loop-at
invariant-loop-at l = position_from (same_name l.name) l.at (map (λ (x : DeclaredNode). x.name) (map node_of (drop l.at l.node-items))) ≡ place_of (node_names (side_of l.side)) l.name

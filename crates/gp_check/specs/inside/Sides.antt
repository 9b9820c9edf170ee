-- The sides of a rule, as they are made.
use Rattle.std.specs.Prelude.{◌≡◌, List, map}
use Rattle.gp_values.specs.Names.{Name}
use Rattle.gp_syntax.specs.Declaration.{Declaration}
use Rattle.gp_syntax.specs.Tree.{left_node_of, left_edge_of, right_node_of, right_edge_of}
use Rattle.gp_check.specs.declared.build.Sides.{Sides}
use Rattle.gp_check.specs.inside.Placed.{left_node_at, left_edge_at, right_node_at, right_edge_at}

-- those of this declaration, with places in place of names
pub record AreSides (variables : List Name) (d : Declaration) (s : Sides) : Type 0 where
  pub left_nodes : map left_node_of s.left_nodes ≡ map (left_node_at variables d) d.left.nodes
  pub left_edges : map left_edge_of s.left_edges ≡ map (left_edge_at variables d) d.left.edges
  pub right_nodes : map right_node_of s.right_nodes ≡ map (right_node_at variables d) d.right.nodes
  pub right_edges : map right_edge_of s.right_edges ≡ map (right_edge_at variables d) d.right.edges

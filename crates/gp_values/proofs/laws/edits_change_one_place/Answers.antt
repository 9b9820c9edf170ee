use Rattle.gp_values.proofs.Graphs.{get-insert_here, get-insert_apart, get-remove_here, get-remove_apart}
use Rattle.gp_values.proofs.laws.edits_change_one_place.Goals as goal

pub returns : goal.returns
returns c = record {
  new_node = λ g x. get-insert_here g.nodes g.next_node x;
  other_nodes = λ g x q h. get-insert_apart g.nodes g.next_node q x h;
  new_edge = λ g d. get-insert_here g.edges g.next_edge d;
  other_edges = λ g d q h. get-insert_apart g.edges g.next_edge q d h;
  no_node = λ g n. get-remove_here g.nodes n;
  nodes_left = λ g n q h. get-remove_apart g.nodes n q h;
  no_edge = λ g e. get-remove_here g.edges e;
  edges_left = λ g e q h. get-remove_apart g.edges e q h;
  label = λ g n x. get-insert_here g.nodes n x;
  other_labels = λ g n q x h. get-insert_apart g.nodes n q x h;
  node_put = λ g n x. get-insert_here g.nodes n x;
  nodes_beside = λ g n q x h. get-insert_apart g.nodes n q x h;
  edge_put = λ g e d. get-insert_here g.edges e d;
  edges_beside = λ g e q d h. get-insert_apart g.edges e q d h;
}

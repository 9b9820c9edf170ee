use Rattle.gp_values.proofs.Order.{entries-walk, entries_from-one_more}
use Rattle.gp_values.proofs.laws.walks_meet_all.Goals as goal

pub returns : goal.returns
returns c = record {
  nodes = λ g w. entries-walk g.nodes g.next_node w.nodes_below;
  edges = λ g w. entries-walk g.edges g.next_edge w.edges_below;
  one_node_more = λ g. entries_from-one_more g.nodes;
  one_edge_more = λ g. entries_from-one_more g.edges;
}

use Rattle.gp_values.proofs.Graphs.{IsGraph-empty, IsGraph-with_node, IsGraph-with_edge, IsGraph-without_node, IsGraph-without_edge, IsGraph-relabeled}
use Rattle.gp_values.proofs.Edits.{IsGraph-with_node_at, IsGraph-with_edge_at, IsGraph-without_node_number, IsGraph-without_edge_number}
use Rattle.gp_values.proofs.laws.edits_keep_graphs.Goals as goal

pub returns : goal.returns
returns c = record {
  empty = IsGraph-empty;
  node = IsGraph-with_node;
  edge = IsGraph-with_edge;
  no_node = IsGraph-without_node;
  no_edge = IsGraph-without_edge;
  label = IsGraph-relabeled;
  node_at_number = IsGraph-with_node_at;
  edge_at_number = IsGraph-with_edge_at;
  no_node_number = IsGraph-without_node_number;
  no_edge_number = IsGraph-without_edge_number;
}

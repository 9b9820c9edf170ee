use Rattle.gp_values.proofs.Edits.{node_put_back, edge_put_back, node_dropped, edge_dropped, relabeled_back}
use Rattle.gp_values.proofs.laws.edits_are_taken_back.Goals as goal

pub returns : goal.returns
returns c = record {
  node_removed = node_put_back;
  edge_removed = edge_put_back;
  node_added = node_dropped;
  edge_added = edge_dropped;
  node_relabeled = relabeled_back;
}

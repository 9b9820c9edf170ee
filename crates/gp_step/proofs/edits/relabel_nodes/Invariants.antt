use Rattle.std.proofs.Common.{◌≡◌, ◌≤◌, ◌+◌, reverse, length, vec_len, vec_capacity}
use Rattle.gp_step.specs.inside.Notes.{KeepsUndo}
use Rattle.gp_step.specs.inside.Changes.{relabel_nodes, MayRelabelNodes}
use Rattle.gp_step.specs.inside.Made.{kept_pairs}
use Rattle.gp_step.proofs.edits.relabel_nodes.Given as goal

abbrev pub invariant-relabels : goal.invariant-relabels
invariant-relabels l = record {
  may : MayRelabelNodes (kept_pairs (reverse l.kept.items)) l.graph.graph;
  graph : relabel_nodes (kept_pairs (reverse l.kept.items)) l.graph.graph ≡ relabel_nodes (kept_pairs l.fn.kept.items) l.initial.graph.graph;
  undo : KeepsUndo (reverse l.initial.taken.items) l.initial.graph.graph (reverse l.taken.items) l.graph.graph;
  room : vec_len l.taken + length l.kept.items ≤ vec_capacity l.taken;
  node_room : l.graph.node_room ≡ l.initial.graph.node_room;
  edge_room : l.graph.edge_room ≡ l.initial.graph.edge_room;
}

abbrev pub decreases-relabels : goal.decreases-relabels
decreases-relabels l = goal.left-relabels l

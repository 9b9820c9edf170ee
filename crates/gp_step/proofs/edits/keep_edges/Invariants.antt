use Rattle.std.proofs.Common.{◌≡◌, ◌≤◌, ◌-◌, ◌+◌, reverse, length, vec_len, vec_capacity}
use Rattle.gp_step.specs.inside.Notes.{KeepsUndo}
use Rattle.gp_step.specs.inside.Changes.{keep_edges, MayKeepEdges}
use Rattle.gp_step.proofs.edits.keep_edges.Given as goal

abbrev pub invariant-keeps : goal.invariant-keeps
invariant-keeps l = record {
  may : MayKeepEdges (reverse l.kept.items) l.graph.graph;
  graph : keep_edges (reverse l.kept.items) l.graph.graph ≡ keep_edges l.fn.kept.items l.initial.graph.graph;
  undo : KeepsUndo (reverse l.initial.taken.items) l.initial.graph.graph (reverse l.taken.items) l.graph.graph;
  spare : vec_len l.taken + length l.kept.items ≤ vec_capacity l.taken;
  room : vec_capacity l.initial.taken - vec_len l.initial.taken ≤ (vec_capacity l.taken - vec_len l.taken) + (length l.fn.kept.items - length l.kept.items);
  shorter : length l.kept.items ≤ length l.fn.kept.items;
  node_room : l.graph.node_room ≡ l.initial.graph.node_room;
  edge_room : l.graph.edge_room ≡ l.initial.graph.edge_room;
}

abbrev pub decreases-keeps : goal.decreases-keeps
decreases-keeps l = goal.left-keeps l

use Rattle.std.proofs.Common.{◌≡◌, ◌≤◌, ◌-◌, ◌+◌, drop, reverse, vec_len, vec_capacity}
use Rattle.gp_step.specs.inside.Notes.{KeepsUndo}
use Rattle.gp_step.specs.inside.Changes.{drop_edges, MayDropEdges}
use Rattle.gp_step.proofs.edits.cut_edges.Given as goal

abbrev pub invariant-loop-e : goal.invariant-loop-e
invariant-loop-e l = record {
  may : MayDropEdges (drop l.e-index l.edges) l.graph.graph;
  graph : drop_edges (drop l.e-index l.edges) l.graph.graph ≡ drop_edges l.edges l.initial.graph.graph;
  undo : KeepsUndo (reverse l.initial.taken.items) l.initial.graph.graph (reverse l.taken.items) l.graph.graph;
  room : vec_capacity l.initial.taken - vec_len l.initial.taken ≤ (vec_capacity l.taken - vec_len l.taken) + l.e-index;
  node_room : l.graph.node_room ≡ l.initial.graph.node_room;
  edge_room : l.graph.edge_room ≡ l.initial.graph.edge_room;
}

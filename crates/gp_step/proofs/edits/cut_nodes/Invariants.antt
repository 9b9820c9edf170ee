use Rattle.std.proofs.Common.{◌≡◌, ◌≤◌, ◌-◌, ◌+◌, drop, reverse, vec_len, vec_capacity}
use Rattle.gp_step.specs.inside.Notes.{KeepsUndo}
use Rattle.gp_step.specs.inside.Changes.{drop_nodes, MayDropNodes}
use Rattle.gp_step.proofs.edits.cut_nodes.Given as goal

abbrev pub invariant-loop-n : goal.invariant-loop-n
invariant-loop-n l = record {
  may : MayDropNodes (drop l.n-index l.nodes) l.graph.graph;
  graph : drop_nodes (drop l.n-index l.nodes) l.graph.graph ≡ drop_nodes l.nodes l.initial.graph.graph;
  undo : KeepsUndo (reverse l.initial.taken.items) l.initial.graph.graph (reverse l.taken.items) l.graph.graph;
  room : vec_capacity l.initial.taken - vec_len l.initial.taken ≤ (vec_capacity l.taken - vec_len l.taken) + l.n-index;
  node_room : l.graph.node_room ≡ l.initial.graph.node_room;
  edge_room : l.graph.edge_room ≡ l.initial.graph.edge_room;
}

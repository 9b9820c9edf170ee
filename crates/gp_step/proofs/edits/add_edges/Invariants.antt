use Rattle.std.proofs.Common.{◌≡◌, ◌≤◌, ◌-◌, reverse, length}
use Rattle.gp_step.specs.declared.inverse.Inverse.TheVariants.{DropEdge}
use Rattle.gp_step.specs.inside.Notes.{KeepsUndoBehind}
use Rattle.gp_step.specs.inside.Changes.{with_edges, MayPutEdges}
use Rattle.gp_step.specs.inside.Made.{edges_of}
use Rattle.gp_step.proofs.edits.add_edges.Given as goal

abbrev pub invariant-adds : goal.invariant-adds
invariant-adds l = record {
  may : MayPutEdges (edges_of (reverse l.edges.items)) l.graph.graph;
  graph : with_edges (edges_of (reverse l.edges.items)) l.graph.graph ≡ with_edges (edges_of l.fn.edges.items) l.initial.graph.graph;
  left : length l.edges.items ≤ length l.fn.edges.items;
  undo : KeepsUndoBehind (length l.fn.edges.items - length l.edges.items) DropEdge l.initial.graph.graph l.graph.graph;
  room : length l.edges.items ≤ l.graph.edge_room;
}

abbrev pub decreases-adds : goal.decreases-adds
decreases-adds l = goal.left-adds l

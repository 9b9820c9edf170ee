use Rattle.std.proofs.Common.{◌≡◌, ◌≤◌, ◌-◌, reverse, length}
use Rattle.gp_step.specs.declared.inverse.Inverse.TheVariants.{DropNode}
use Rattle.gp_step.specs.inside.Notes.{KeepsUndoBehind}
use Rattle.gp_step.specs.inside.Changes.{with_nodes}
use Rattle.gp_step.specs.inside.Made.{nodes_of}
use Rattle.gp_step.proofs.edits.add_nodes.Given as goal

abbrev pub invariant-adds : goal.invariant-adds
invariant-adds l = record {
  graph : with_nodes (nodes_of (reverse l.nodes.items)) l.graph.graph ≡ with_nodes (nodes_of l.fn.nodes.items) l.initial.graph.graph;
  left : length l.nodes.items ≤ length l.fn.nodes.items;
  undo : KeepsUndoBehind (length l.fn.nodes.items - length l.nodes.items) DropNode l.initial.graph.graph l.graph.graph;
  room : length l.nodes.items ≤ l.graph.node_room;
  edge_room : l.graph.edge_room ≡ l.initial.graph.edge_room;
}

abbrev pub decreases-adds : goal.decreases-adds
decreases-adds l = goal.left-adds l

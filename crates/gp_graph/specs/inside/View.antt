-- A graph's slots, as the graph.
use Rattle.std.specs.Prelude.{List, Option, length, vec_len, vec_capacity, ◌-◌}
use Rattle.gp_values.specs.Graph.{Node, Edge, Graph}
use Rattle.gp_graph.specs.Held.{Held}
use Rattle.gp_graph.specs.inside.Slots.{map_of}
use Rattle.gp_graph.specs.declared.slots.NodeSlot.{NodeSlot}
use Rattle.gp_graph.specs.declared.slots.EdgeSlot.{EdgeSlot}
use Rattle.gp_graph.specs.declared.graph.Graph.TheInside.{Inside}

abbrev pub node_of : NodeSlot → Node
node_of s = record { label = s.label; mark = s.mark; root = s.root }

abbrev pub edge_of : EdgeSlot → Edge
edge_of s = record { source = s.source; target = s.target; label = s.label; mark = s.mark }

abbrev pub graph_from : List (Option NodeSlot) → List (Option EdgeSlot) → Graph
graph_from ns es = record {
  nodes = map_of node_of ns;
  edges = map_of edge_of es;
  next_node = length ns;
  next_edge = length es;
}

abbrev pub graph_of : Inside → Graph
graph_of a = graph_from a.nodes.items a.edges.items

abbrev pub held_of : Inside → Held
held_of a = record {
  graph = graph_of a;
  node_room = vec_capacity a.nodes - vec_len a.nodes;
  edge_room = vec_capacity a.edges - vec_len a.edges;
}

-- A step as a function: what it makes of each half of the graph, by the values of the right side's labels.
use Rattle.std.specs.Prelude.{ℕ, ◌+◌, false, if◌then◌else◌, List, [], count_by, Option, is_none, slice_index}
use Rattle.std.specs.Option.{option_map, option_map_or}
use Rattle.gp_values.specs.declared.atom.Atom.{Atom}
use Rattle.gp_values.specs.declared.marks.NodeMark.TheVariants as node_marks
use Rattle.gp_values.specs.declared.marks.EdgeMark.TheVariants as edge_marks
use Rattle.gp_values.specs.Graph.{Graph, Node, Edge}
use Rattle.gp_syntax.specs.Value.{Assignment, Valued, Value, NoValue, value_of}
use Rattle.gp_syntax.specs.Rule.{Rule, RightNode, RightEdge, Found, kept_edge, kept_nodes, kept_edges}
use Rattle.gp_syntax.specs.Match.{setting_of}
use Rattle.gp_syntax.specs.Step.{made_mark, made_root, left_root, found_node, found_edge, is_exchanged}
use Rattle.gp_step.specs.Halves.{images_from, half_after}

abbrev pub value_or_empty : Valued (List Atom) → List Atom
value_or_empty (Value v) = v
value_or_empty (NoValue k) = []

-- ---- what is made

abbrev pub made_node : Rule → Graph → Found → Assignment → RightNode → Node
made_node r g m a q = record {
  label = value_or_empty (value_of q.label (setting_of r g m a));
  mark = made_mark q.mark (option_map (λ (y : Node). y.mark) (found_node g m q.origin)) node_marks.None;
  root = made_root (left_root r q.origin) q.root (option_map_or (λ (y : Node). y.root) (found_node g m q.origin) false);
}

abbrev pub made_edge : Rule → Graph → Found → Assignment → List ℕ → RightEdge → Edge
made_edge r g m a images q = record {
  source = slice_index images (if is_exchanged m q then q.target else q.source);
  target = slice_index images (if is_exchanged m q then q.source else q.target);
  label = value_or_empty (value_of q.label (setting_of r g m a));
  mark = made_mark q.mark (option_map (λ (y : Edge). y.mark) (found_edge g m q.origin)) edge_marks.None;
}

abbrev pub images_of : Rule → Graph → Found → List ℕ
images_of r g m = images_from m.nodes (kept_nodes r) g.next_node

-- ---- the step

abbrev pub origin_of : RightNode → Option ℕ
origin_of q = q.origin

abbrev pub stepped : Rule → Graph → Found → Assignment → Graph
stepped r g m a = record {
  nodes = half_after m.nodes origin_of (made_node r g m a) r.right_nodes g.nodes g.next_node;
  edges = half_after m.edges (kept_edge r) (made_edge r g m a (images_of r g m)) r.right_edges g.edges g.next_edge;
  next_node = g.next_node + count_by is_none (kept_nodes r);
  next_edge = g.next_edge + count_by is_none (kept_edges r);
}

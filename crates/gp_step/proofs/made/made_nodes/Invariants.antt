use Rattle.std.proofs.Common.{◌≡◌, ◌++◌, map, drop}
use Rattle.gp_syntax.specs.Tree.{right_node_of}
use Rattle.gp_step.specs.Halves.{images_from}
use Rattle.gp_step.specs.Edits.{images_of, origin_of}
use Rattle.gp_step.specs.inside.Changes.{kept_of, new_of}
use Rattle.gp_step.specs.inside.Made.{kept_pairs, nodes_of}
use Rattle.gp_step.specs.inside.Scene.{rule_at, node_made}
use Rattle.gp_step.proofs.made.made_nodes.Given as goal

abbrev pub invariant-loop-q : goal.invariant-loop-q
invariant-loop-q l =
    let make = node_made l.scene in
    record {
      items : l.q-items ≡ l.scene.parts.right_nodes;
      images : l.placed.images.items ++ images_from l.scene.found.nodes (map origin_of (map right_node_of (drop l.q-index l.scene.parts.right_nodes))) l.placed.next ≡ images_of (rule_at l.scene) l.scene.graph l.scene.found;
      kept : kept_pairs l.placed.kept.items ++ kept_of l.scene.found.nodes origin_of make (map right_node_of (drop l.q-index l.scene.parts.right_nodes)) ≡ kept_of l.scene.found.nodes origin_of make (map right_node_of l.scene.parts.right_nodes);
      added : nodes_of l.placed.added.items ++ new_of origin_of make (map right_node_of (drop l.q-index l.scene.parts.right_nodes)) ≡ new_of origin_of make (map right_node_of l.scene.parts.right_nodes);
    }

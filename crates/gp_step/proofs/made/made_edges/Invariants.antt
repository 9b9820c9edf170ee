use Rattle.std.proofs.Common.{◌≡◌, ◌++◌, map, drop}
use Rattle.gp_syntax.specs.Rule.{RightEdge, kept_edge}
use Rattle.gp_syntax.specs.Tree.{right_edge_of}
use Rattle.gp_step.specs.inside.Changes.{kept_of, new_of, carried_by}
use Rattle.gp_step.specs.inside.Made.{edges_of, kept_edge_pairs}
use Rattle.gp_step.specs.inside.Scene.{rule_at, edge_made}
use Rattle.gp_step.proofs.made.made_edges.Given as goal

abbrev pub invariant-loop-q : goal.invariant-loop-q
invariant-loop-q l =
    let make = edge_made l.scene l.images in
    let keeps = kept_edge (rule_at l.scene) in
    record {
      items : l.q-items ≡ l.scene.parts.right_edges;
      kept : kept_edge_pairs l.scene.graph l.joined.kept.items ++ kept_of l.scene.found.edges keeps (λ (q : RightEdge). carried_by (make q)) (map right_edge_of (drop l.q-index l.scene.parts.right_edges)) ≡ kept_of l.scene.found.edges keeps (λ (q : RightEdge). carried_by (make q)) (map right_edge_of l.scene.parts.right_edges);
      added : edges_of l.joined.added.items ++ new_of keeps make (map right_edge_of (drop l.q-index l.scene.parts.right_edges)) ≡ new_of keeps make (map right_edge_of l.scene.parts.right_edges);
    }

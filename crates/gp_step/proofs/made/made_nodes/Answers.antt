use Rattle.std.proofs.Common.{◌<◌, ◌+◌, ◌++◌, ◌∷◌, [], ℕ, List, IfSome, length, map, drop, append_assoc, refl, ap, ap₂, subst, sym, ◌∙◌, arith}
use Rattle.gp_values.specs.Graph.{Node}
use Rattle.gp_syntax.specs.Tree.{right_node_of}
use Rattle.gp_step.specs.Halves.{image_of, images_from, next_of}
use Rattle.gp_step.specs.Edits.{origin_of}
use Rattle.gp_step.specs.inside.Changes.{kept_first, kept_of, new_first, new_of}
use Rattle.gp_step.specs.inside.Made.{kept_pairs, nodes_of}
use Rattle.gp_step.specs.inside.Scene.{SceneView, IsReady, node_made}
use Rattle.gp_step.proofs.Labels.{node_label, node_origin, node_count}
use Rattle.gp_step.proofs.Collecting.{item_at, from_item, all_items, kept_more, new_more}
use Rattle.gp_step.proofs.made.made_nodes.Goals as goal

pub made_node-requires-clause-label : goal.made_node-requires-clause-label
made_node-requires-clause-label c =
    node_label c.args.scene.now (subst IsReady c.scene.view_is c.scene.invariant) c.loop-q.q-index c.q-item.result
    (item_at c.args.scene.now.parts.right_nodes c.as_slice-q-items.result.now c.loop-q.q-index c.q-item.result (c.as_slice-q-items.ensures ∙ ap (λ (s : SceneView). s.parts.right_nodes) c.scene.view_is) (omega arith) c.q-item.is)

pub made_node-requires-clause-origin : goal.made_node-requires-clause-origin
made_node-requires-clause-origin c =
    node_origin c.args.scene.now (subst IsReady c.scene.view_is c.scene.invariant) c.loop-q.q-index c.q-item.result
    (item_at c.args.scene.now.parts.right_nodes c.as_slice-q-items.result.now c.loop-q.q-index c.q-item.result (c.as_slice-q-items.ensures ∙ ap (λ (s : SceneView). s.parts.right_nodes) c.scene.view_is) (omega arith) c.q-item.is)

pub place-requires : goal.place-requires
place-requires c =
    subst (λ n. IfSome c.q-item.result.origin (λ i. i < n)) (sym (ap (λ (s : SceneView). length s.found.nodes) c.scene.view_is ∙ node_count c.args.scene.now (subst IsReady c.scene.view_is c.scene.invariant)))
    (node_origin c.args.scene.now (subst IsReady c.scene.view_is c.scene.invariant) c.loop-q.q-index c.q-item.result
    (item_at c.args.scene.now.parts.right_nodes c.as_slice-q-items.result.now c.loop-q.q-index c.q-item.result (c.as_slice-q-items.ensures ∙ ap (λ (s : SceneView). s.parts.right_nodes) c.scene.view_is) (omega arith) c.q-item.is))

pub loop-q-preserved : goal.loop-q-preserved
loop-q-preserved c =
    let m = c.args.scene.now.found in
    let make = node_made c.args.scene.now in
    let q = c.q-item.result in
    let so = c.loop-q.placed in
    let left = map right_node_of (drop (c.loop-q.q-index + 1) c.args.scene.now.parts.right_nodes) in
    let there : c.loop-q.q-index < length c.as_slice-q-items.result.now = omega arith in
    record {
      items = c.loop-q.invariant.items;
      images = ap₂ (λ (ns : List ℕ) (n : ℕ). ns ++ images_from m.nodes (map origin_of left) n) (c.in_ok-place.ensures.images ∙ ap (λ (s : SceneView). so.images.items ++ image_of s.found.nodes q.origin so.next ∷ []) c.scene.view_is) c.in_ok-place.ensures.next
          ∙ append_assoc so.images.items (image_of m.nodes q.origin so.next ∷ []) (images_from m.nodes (map origin_of left) (next_of q.origin so.next))
          ∙ sym (from_item (λ qs. so.images.items ++ images_from m.nodes (map origin_of (map right_node_of qs)) so.next) c.args.scene.now.parts.right_nodes c.as_slice-q-items.result.now c.loop-q.q-index q c.loop-q.invariant.items there c.q-item.is)
          ∙ c.loop-q.invariant.images;
      kept = ap (λ ps. ps ++ kept_of m.nodes origin_of make left) (c.in_ok-place.ensures.kept ∙ ap₂ (λ (s : SceneView) (x : Node). kept_pairs so.kept.items ++ kept_first s.found.nodes q.origin x []) c.scene.view_is c.in_ok-carried.ensures)
          ∙ kept_more m.nodes q.origin (make (right_node_of q)) (kept_pairs so.kept.items) (kept_of m.nodes origin_of make left)
          ∙ sym (from_item (λ qs. kept_pairs so.kept.items ++ kept_of m.nodes origin_of make (map right_node_of qs)) c.args.scene.now.parts.right_nodes c.as_slice-q-items.result.now c.loop-q.q-index q c.loop-q.invariant.items there c.q-item.is)
          ∙ c.loop-q.invariant.kept;
      added = ap (λ xs. xs ++ new_of origin_of make left) (c.in_ok-place.ensures.added ∙ ap (λ (x : Node). nodes_of so.added.items ++ new_first q.origin x []) c.in_ok-carried.ensures)
          ∙ new_more q.origin (make (right_node_of q)) (nodes_of so.added.items) (new_of origin_of make left)
          ∙ sym (from_item (λ qs. nodes_of so.added.items ++ new_of origin_of make (map right_node_of qs)) c.args.scene.now.parts.right_nodes c.as_slice-q-items.result.now c.loop-q.q-index q c.loop-q.invariant.items there c.q-item.is)
          ∙ c.loop-q.invariant.added;
    }

pub returns-clause-images : goal.returns-clause-images
returns-clause-images c =
    let m = c.args.scene.now.found in
    all_items c.loop-q.placed.images.items _ (λ qs. images_from m.nodes (map origin_of (map right_node_of qs)) c.loop-q.placed.next) c.args.scene.now.parts.right_nodes c.as_slice-q-items.result.now c.loop-q.q-index
    c.loop-q.invariant.items c.loop-q-test.false refl c.loop-q.invariant.images

pub returns-clause-kept : goal.returns-clause-kept
returns-clause-kept c =
    let m = c.args.scene.now.found in
    all_items (kept_pairs c.loop-q.placed.kept.items) _ (λ qs. kept_of m.nodes origin_of (node_made c.args.scene.now) (map right_node_of qs)) c.args.scene.now.parts.right_nodes c.as_slice-q-items.result.now c.loop-q.q-index
    c.loop-q.invariant.items c.loop-q-test.false refl c.loop-q.invariant.kept

pub returns-clause-added : goal.returns-clause-added
returns-clause-added c =
    all_items (nodes_of c.loop-q.placed.added.items) _ (λ qs. new_of origin_of (node_made c.args.scene.now) (map right_node_of qs)) c.args.scene.now.parts.right_nodes c.as_slice-q-items.result.now c.loop-q.q-index
    c.loop-q.invariant.items c.loop-q-test.false refl c.loop-q.invariant.added

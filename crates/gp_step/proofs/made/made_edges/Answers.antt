use Rattle.std.proofs.Common.{◌≡◌, ◌<◌, ◌+◌, ◌++◌, ◌∷◌, [], length, map, drop, Some, None, refl, ap, subst, sym, ◌∙◌, arith}
use Rattle.std.proofs.lemmas.List.{map-append, append-nil}
use Rattle.gp_values.specs.Graph.{Edge}
use Rattle.gp_syntax.specs.Rule.{RightEdge, kept_edge}
use Rattle.gp_syntax.specs.Tree.{right_edge_of}
use Rattle.gp_step.specs.inside.Changes.{kept_first, kept_of, new_first, new_of, carried_by}
use Rattle.gp_step.specs.inside.Made.{edge_of, edges_of, kept_edge_pair, kept_edge_pairs}
use Rattle.gp_step.specs.inside.Scene.{SceneView, IsReady, rule_at, edge_made}
use Rattle.gp_step.proofs.Labels.{edge_label, edge_origin, edge_ends, edge_keeps}
use Rattle.gp_step.proofs.Collecting.{item_at, from_item, all_items, kept_more, new_more}
use Rattle.gp_step.proofs.made.made_edges.Goals as goal
use Rattle.gp_step.proofs.made.made_edges.Goals.{in-Some+in_ok-edge-in-Some+in_ok-push-in-Some, in-None+in_ok-edge-in-None+in_ok-push-in-None}

pub made_edge-requires-clause-label : goal.made_edge-requires-clause-label
made_edge-requires-clause-label c =
    edge_label c.args.scene.now (subst IsReady c.scene.view_is c.scene.invariant) c.loop-q.q-index c.q-item.result
    (item_at c.args.scene.now.parts.right_edges c.as_slice-q-items.result.now c.loop-q.q-index c.q-item.result (c.as_slice-q-items.ensures ∙ ap (λ (s : SceneView). s.parts.right_edges) c.scene.view_is) (omega arith) c.q-item.is)

pub made_edge-requires-clause-origin : goal.made_edge-requires-clause-origin
made_edge-requires-clause-origin c =
    edge_origin c.args.scene.now (subst IsReady c.scene.view_is c.scene.invariant) c.loop-q.q-index c.q-item.result
    (item_at c.args.scene.now.parts.right_edges c.as_slice-q-items.result.now c.loop-q.q-index c.q-item.result (c.as_slice-q-items.ensures ∙ ap (λ (s : SceneView). s.parts.right_edges) c.scene.view_is) (omega arith) c.q-item.is)

pub made_edge-requires-clause-source : goal.made_edge-requires-clause-source
made_edge-requires-clause-source c =
    let e = edge_ends c.args.scene.now (subst IsReady c.scene.view_is c.scene.invariant) c.loop-q.q-index c.q-item.result
    (item_at c.args.scene.now.parts.right_edges c.as_slice-q-items.result.now c.loop-q.q-index c.q-item.result (c.as_slice-q-items.ensures ∙ ap (λ (s : SceneView). s.parts.right_edges) c.scene.view_is) (omega arith) c.q-item.is) in
    subst (λ n. c.q-item.result.source < n) (sym c.requires) e.0

pub made_edge-requires-clause-target : goal.made_edge-requires-clause-target
made_edge-requires-clause-target c =
    let e = edge_ends c.args.scene.now (subst IsReady c.scene.view_is c.scene.invariant) c.loop-q.q-index c.q-item.result
    (item_at c.args.scene.now.parts.right_edges c.as_slice-q-items.result.now c.loop-q.q-index c.q-item.result (c.as_slice-q-items.ensures ∙ ap (λ (s : SceneView). s.parts.right_edges) c.scene.view_is) (omega arith) c.q-item.is) in
    subst (λ n. c.q-item.result.target < n) (sym c.requires) e.1

pub carried_edge-requires-clause-label : goal.carried_edge-requires-clause-label
carried_edge-requires-clause-label c =
    edge_label c.args.scene.now (subst IsReady c.scene.view_is c.scene.invariant) c.loop-q.q-index c.q-item.result
    (item_at c.args.scene.now.parts.right_edges c.as_slice-q-items.result.now c.loop-q.q-index c.q-item.result (c.as_slice-q-items.ensures ∙ ap (λ (s : SceneView). s.parts.right_edges) c.scene.view_is) (omega arith) c.q-item.is)

pub carried_edge-requires-clause-within : goal.carried_edge-requires-clause-within
carried_edge-requires-clause-within c =
    let k : kept_edge (rule_at c.args.scene.now) (right_edge_of c.q-item.result) ≡ Some c.in-Some.place = sym (c.kept_edge.ensures ∙ ap (λ (s : SceneView). kept_edge (rule_at s) (right_edge_of c.q-item.result)) c.scene.view_is) ∙ c.in-Some.is in
    let b = edge_keeps c.args.scene.now (subst IsReady c.scene.view_is c.scene.invariant) c.loop-q.q-index c.q-item.result
    (item_at c.args.scene.now.parts.right_edges c.as_slice-q-items.result.now c.loop-q.q-index c.q-item.result (c.as_slice-q-items.ensures ∙ ap (λ (s : SceneView). s.parts.right_edges) c.scene.view_is) (omega arith) c.q-item.is) in
    rw k at b

pub loop-q-preserved : goal.loop-q-preserved
loop-q-preserved c =
    let g = c.args.scene.now.graph in
    let m = c.args.scene.now.found in
    let make = edge_made c.args.scene.now c.args.images.now in
    let carry = λ (z : RightEdge). carried_by (make z) in
    let keeps = kept_edge (rule_at c.args.scene.now) in
    let q = c.q-item.result in
    let o = keeps (right_edge_of q) in
    let e = c.kept_edge.ensures ∙ ap (λ (s : SceneView). kept_edge (rule_at s) (right_edge_of q)) c.scene.view_is in
    let so = c.loop-q.joined in
    let now = c.match-kept_edge.joined in
    let left = map right_edge_of (drop (c.loop-q.q-index + 1) c.args.scene.now.parts.right_edges) in
    let there : c.loop-q.q-index < length c.as_slice-q-items.result.now = omega arith in
    let one : (kept_edge_pairs g now.kept.items ≡ kept_edge_pairs g so.kept.items ++ kept_first m.edges o (carry (right_edge_of q)) []) × (edges_of now.added.items ≡ edges_of so.added.items ++ new_first o (make (right_edge_of q)) []) =
    elim c.match-kept_edge.branch [
      | in-Some+in_ok-edge-in-Some+in_ok-push-in-Some w ↦
          (let k : o ≡ Some w.in-Some.place = sym e ∙ w.in-Some.is in
          rw (w.joined-is, k)
          (ap (kept_edge_pairs g) w.in_ok-push-in-Some.ensures.items ∙ map-append (kept_edge_pair g) so.kept.items _ ∙ ap (λ p. kept_edge_pairs g so.kept.items ++ p ∷ []) w.in_ok-edge-in-Some.ensures, sym (append-nil (edges_of so.added.items))))
      | in-None+in_ok-edge-in-None+in_ok-push-in-None w ↦
          (let k : o ≡ None = sym e ∙ w.in-None.is in
          rw (w.joined-is, k)
          (sym (append-nil (kept_edge_pairs g so.kept.items)), ap edges_of w.in_ok-push-in-None.ensures.items ∙ map-append edge_of so.added.items _ ∙ ap (λ (x : Edge). edges_of so.added.items ++ x ∷ []) w.in_ok-edge-in-None.ensures))
    ] in
    record {
      items = c.loop-q.invariant.items;
      kept = ap (λ ps. ps ++ kept_of m.edges keeps carry left) one.0
          ∙ kept_more m.edges o (carry (right_edge_of q)) (kept_edge_pairs g so.kept.items) (kept_of m.edges keeps carry left)
          ∙ sym (from_item (λ qs. kept_edge_pairs g so.kept.items ++ kept_of m.edges keeps carry (map right_edge_of qs)) c.args.scene.now.parts.right_edges c.as_slice-q-items.result.now c.loop-q.q-index q c.loop-q.invariant.items there c.q-item.is)
          ∙ c.loop-q.invariant.kept;
      added = ap (λ xs. xs ++ new_of keeps make left) one.1
          ∙ new_more o (make (right_edge_of q)) (edges_of so.added.items) (new_of keeps make left)
          ∙ sym (from_item (λ qs. edges_of so.added.items ++ new_of keeps make (map right_edge_of qs)) c.args.scene.now.parts.right_edges c.as_slice-q-items.result.now c.loop-q.q-index q c.loop-q.invariant.items there c.q-item.is)
          ∙ c.loop-q.invariant.added;
    }

pub returns-clause-kept : goal.returns-clause-kept
returns-clause-kept c =
    let s = c.args.scene.now in
    all_items (kept_edge_pairs s.graph c.loop-q.joined.kept.items) _ (λ qs. kept_of s.found.edges (kept_edge (rule_at s)) (λ (z : RightEdge). carried_by (edge_made s c.args.images.now z)) (map right_edge_of qs)) s.parts.right_edges c.as_slice-q-items.result.now c.loop-q.q-index
    c.loop-q.invariant.items c.loop-q-test.false refl c.loop-q.invariant.kept

pub returns-clause-added : goal.returns-clause-added
returns-clause-added c =
    let s = c.args.scene.now in
    all_items (edges_of c.loop-q.joined.added.items) _ (λ qs. new_of (kept_edge (rule_at s)) (edge_made s c.args.images.now) (map right_edge_of qs)) s.parts.right_edges c.as_slice-q-items.result.now c.loop-q.q-index
    c.loop-q.invariant.items c.loop-q-test.false refl c.loop-q.invariant.added

-- What a checked rule's right side asks for is there, where a match applies.
use Rattle.std.proofs.Common.{◌≡◌, ℕ, ◌<◌, List, map, length, get_or, Option, Some, None, IsSome, IfSome, slice_get, slice_index, slice_index_or, false, refl, sym, ap, subst, ◌∙◌, arith}
use Rattle.std.specs.Option.{option_map}
use Rattle.std.proofs.lemmas.List.{get_or_default, length-map}
use Rattle.std.proofs.lemmas.Option.{slice_get-map, get_or_from_slice_get}
use Rattle.gp_memory.proofs.Basics.{and_is_some as there, some_and, some_at as element}
use Rattle.gp_values.specs.declared.marks.EdgeMark.TheVariants as edge_marks
use Rattle.gp_values.specs.Graph.{Graph, Edge, node_at, edge_at}
use Rattle.gp_syntax.specs.declared.rule.RuleParts.{RuleParts}
use Rattle.gp_syntax.specs.declared.rule.LeftEdge.{LeftEdge}
use Rattle.gp_syntax.specs.declared.rule.RightNode.{RightNode}
use Rattle.gp_syntax.specs.declared.rule.RightEdge.{RightEdge}
use Rattle.gp_syntax.specs.Rule as meant
use Rattle.gp_syntax.specs.Expression.{Expression, MarkPattern, Marked, AnyMark}
use Rattle.gp_syntax.specs.Value.{Assignment, value_of}
use Rattle.gp_syntax.specs.Assigned.{PartialAssignment, assigned_of}
use Rattle.gp_syntax.specs.Match.{MatchBy, FitsEdge, Agrees, setting_of}
use Rattle.gp_syntax.specs.Step.{made_mark, found_edge}
use Rattle.gp_syntax.specs.Tree.{rule_of_tree, left_edge_of, right_node_of, right_edge_of, expression_of, pattern_of}
use Rattle.gp_syntax.specs.WellFormed.{IsWithin}
use Rattle.gp_eval.specs.Answer.{AreNodes}
use Rattle.gp_syntax.proofs.KeptEdges.{kept_edge_at}
use Rattle.gp_step.specs.Edits.{value_or_empty, made_edge}
use Rattle.gp_step.specs.inside.Changes.{carried_by}
use Rattle.gp_step.specs.inside.Made.{carried_at}
use Rattle.gp_step.specs.inside.Scene.{SceneView, IsReady, IsRightLabel}
use Rattle.gp_step.specs.inside.Same.{SaysSame, IsUnchanged}
use Rattle.gp_step.proofs.Afters.{both_values, has_values}
use Rattle.gp_step.proofs.Wholes.{all_left, at_label, all_right}

pub images_are_nodes : (r : meant.Rule) (g : Graph) (m : meant.Found) (a : Assignment) → MatchBy r g m a → AreNodes g m.nodes
images_are_nodes r g m a w k d l =
    let n : length m.nodes ≡ length r.left_nodes = w.node_count in
    let p = element r.left_nodes k (omega arith) in
    subst (λ i. IsSome (node_at g i)) (sym (get_or_default m.nodes k d 0 l)) (there _ _ (w.nodes k p.0 p.1))

-- ---- elements

pub same_element : {X : Type 0} (xs : List X) (k : ℕ) (d : X) → k < length xs → slice_get xs k ≡ Some (get_or xs k d)
same_element xs k d l = let e = element xs k l in e.1 ∙ ap (λ x. Some x) (sym (get_or_from_slice_get xs k e.0 d e.1))

-- a pattern that a mark agrees with keeps it
agreed_mark : {M : Type 0} (pattern : MarkPattern M) (found none : M) → Agrees pattern found → made_mark pattern (Some found) none ≡ found
agreed_mark (Marked mark) found none a = a
agreed_mark AnyMark found none a = refl

module _ (scene : SceneView) (w : IsReady scene) where
  abbrev p : RuleParts
  p = scene.parts

  abbrev g : Graph
  g = scene.graph

  abbrev m : meant.Found
  m = scene.found

  abbrev b : PartialAssignment
  b = scene.assignment

  abbrev r : meant.Rule
  r = rule_of_tree p

  abbrev node_labels : List (Expression ℕ)
  node_labels = map (λ (q : meant.RightNode). q.label) r.right_nodes

  abbrev edge_labels : List (Expression ℕ)
  edge_labels = map (λ (q : meant.RightEdge). q.label) r.right_edges

  node_label_at : (k : ℕ) (q : RightNode) → slice_get p.right_nodes k ≡ Some q → slice_get node_labels k ≡ Some (expression_of q.label)
  node_label_at k q e =
      slice_get-map (λ (z : meant.RightNode). z.label) r.right_nodes k
      ∙ ap (option_map (λ (z : meant.RightNode). z.label)) (slice_get-map right_node_of p.right_nodes k ∙ ap (option_map right_node_of) e)

  edge_label_at : (k : ℕ) (q : RightEdge) → slice_get p.right_edges k ≡ Some q → slice_get edge_labels k ≡ Some (expression_of q.label)
  edge_label_at k q e =
      slice_get-map (λ (z : meant.RightEdge). z.label) r.right_edges k
      ∙ ap (option_map (λ (z : meant.RightEdge). z.label)) (slice_get-map right_edge_of p.right_edges k ∙ ap (option_map right_edge_of) e)

  pub node_label : (k : ℕ) (q : RightNode) → slice_get p.right_nodes k ≡ Some q → IsRightLabel scene (expression_of q.label)
  node_label k q e =
      let s = setting_of r g m (assigned_of b) in
      let v = both_values node_labels edge_labels s w.applies.values in
      let i = node_label_at k q e in
      let n : length p.left_nodes ≡ length r.left_nodes = sym (length-map p.left_nodes _) in
      record {
        within = subst (λ z. IsWithin (length p.types) z (expression_of q.label)) (sym n) (all_left (IsWithin (length r.types) (length r.left_nodes)) node_labels edge_labels w.well_formed.right_labels_within k (expression_of q.label) i);
        has_value = has_values node_labels s v.0 k (expression_of q.label) i;
      }

  pub edge_label : (k : ℕ) (q : RightEdge) → slice_get p.right_edges k ≡ Some q → IsRightLabel scene (expression_of q.label)
  edge_label k q e =
      let s = setting_of r g m (assigned_of b) in
      let v = both_values node_labels edge_labels s w.applies.values in
      let i = edge_label_at k q e in
      let n : length p.left_nodes ≡ length r.left_nodes = sym (length-map p.left_nodes _) in
      record {
        within = subst (λ z. IsWithin (length p.types) z (expression_of q.label)) (sym n) (at_label (IsWithin (length r.types) (length r.left_nodes)) edge_labels (all_right (IsWithin (length r.types) (length r.left_nodes)) node_labels edge_labels w.well_formed.right_labels_within) k (expression_of q.label) i);
        has_value = has_values edge_labels s v.1 k (expression_of q.label) i;
      }

  some_below : (o : Option ℕ) (n : ℕ) → ((i : ℕ) → o ≡ Some i → i < n) → IfSome o (λ i. i < n)
  some_below None n h = tt
  some_below (Some i) n h = h i refl

  -- where it comes from
  pub node_origin : (k : ℕ) (q : RightNode) → slice_get p.right_nodes k ≡ Some q → IfSome q.origin (λ i. i < length p.left_nodes)
  node_origin k q e =
      let n : length r.left_nodes ≡ length p.left_nodes = length-map p.left_nodes _ in
      some_below q.origin (length p.left_nodes) (λ i o. subst (λ z. i < z) n (w.well_formed.origins k i (right_node_of q) (slice_get-map right_node_of p.right_nodes k ∙ ap (option_map right_node_of) e) o))

  pub edge_origin : (k : ℕ) (q : RightEdge) → slice_get p.right_edges k ≡ Some q → IfSome q.origin (λ i. i < length m.edges)
  edge_origin k q e =
      some_below q.origin (length m.edges) (λ i o. subst (λ z. i < z) (sym w.applies.is_match.edge_count) (w.well_formed.edge_origins k i (right_edge_of q) (slice_get-map right_edge_of p.right_edges k ∙ ap (option_map right_edge_of) e) o))

  -- the left edge that it keeps
  pub edge_keeps : (k : ℕ) (q : RightEdge) → slice_get p.right_edges k ≡ Some q → IfSome (meant.kept_edge r (right_edge_of q)) (λ i. i < length m.edges)
  edge_keeps k q e =
      some_below (meant.kept_edge r (right_edge_of q)) (length m.edges) (λ i o.
      subst (λ z. i < z) (sym w.applies.is_match.edge_count)
      (w.well_formed.edge_origins k i (right_edge_of q) (slice_get-map right_edge_of p.right_edges k ∙ ap (option_map right_edge_of) e) (kept_edge_at r (right_edge_of q) i o).3))

  -- one that says what the left edge does makes what was found
  pub carries_found : (i : ℕ) (q : RightEdge) (images : List ℕ) → meant.kept_edge r (right_edge_of q) ≡ Some i → IsUnchanged p i q → carried_at g (slice_index m.edges i) ≡ carried_by (made_edge r g m (assigned_of b) images (right_edge_of q))
  carries_found i q images k u =
      let s = setting_of r g m (assigned_of b) in
      let x = some_and (slice_get p.left_edges i) (λ (z : LeftEdge). SaysSame z q) u in
      let d = some_and (edge_at g (slice_index m.edges i)) (FitsEdge s (left_edge_of x.0) (slice_index_or m.reversed i false)) (w.applies.is_match.edges i (left_edge_of x.0) (slice_get-map left_edge_of p.left_edges i ∙ ap (option_map left_edge_of) x.1)) in
      let label : d.0.label ≡ value_or_empty (value_of (expression_of q.label) s) = sym (ap (λ e. value_or_empty (value_of e s)) (sym x.2.label) ∙ ap value_or_empty d.2.label) in
      let found : found_edge g m q.origin ≡ Some d.0 = ap (found_edge g m) (kept_edge_at r (right_edge_of q) i k).3 ∙ d.1 in
      let mark : d.0.mark ≡ made_mark (pattern_of q.mark) (option_map (λ (y : Edge). y.mark) (found_edge g m q.origin)) edge_marks.None = sym (ap (λ o. made_mark (pattern_of q.mark) (option_map (λ (y : Edge). y.mark) o) edge_marks.None) found ∙ agreed_mark (pattern_of q.mark) d.0.mark edge_marks.None (subst (λ z. Agrees z d.0.mark) x.2.mark d.2.mark)) in
      rw d.1 (λ i. (label i, mark i))

  pub node_count : length m.nodes ≡ length p.left_nodes
  node_count = w.applies.is_match.node_count ∙ length-map p.left_nodes _

  pub edge_ends : (k : ℕ) (q : RightEdge) → slice_get p.right_edges k ≡ Some q → (q.source < length p.right_nodes) × (q.target < length p.right_nodes)
  edge_ends k q e =
      let n : length r.right_nodes ≡ length p.right_nodes = length-map p.right_nodes _ in
      let h = w.well_formed.right_ends k (right_edge_of q) (slice_get-map right_edge_of p.right_edges k ∙ ap (option_map right_edge_of) e) in
      (subst (λ z. q.source < z) n h.0, subst (λ z. q.target < z) n h.1)

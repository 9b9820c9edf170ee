-- A match leads to one graph by the step that makes all edges anew: all that stands at a number of the new graph is told
-- by the rule, the match and the assignment.
use Rattle.std.proofs.Common.{◌≡◌, ◌⊎◌, inl, inr, ℕ, ◌+◌, ◌-◌, ◌<◌, List, length, slice_index, Some, Contains, sym, ap, subst, ◌∙◌, arith}
use Rattle.std.proofs.lemmas.Bool.{cases_lt}
use Rattle.std.proofs.lemmas.List.{length-map}
use Rattle.gp_memory.proofs.Basics.{some_at as element, standing}
use Rattle.gp_values.specs.Graph.{Graph, Node, Edge, node_at, edge_at}
use Rattle.gp_values.proofs.Graphs.{same_graph}
use Rattle.gp_syntax.specs.Value.{Assignment}
use Rattle.gp_syntax.specs.Rule.{Rule, RightNode, RightEdge, Found, kept_nodes}
use Rattle.gp_syntax.specs.Step.{MakesNode, MakesEdge}
use Rattle.gp_syntax.specs.WellFormed.{IsWellFormed}
use Rattle.gp_syntax.proofs.Unique.{contained, same_images}
use Rattle.gp_unify.proofs.Candidates.{one_assignment}
use Rattle.gp_derivation.specs.StepAnew.{StepAnewBy, StepAnew}

-- ---- what is made

-- what a right node asks is one node
made_node : {r : Rule} {g : Graph} {m : Found} {a : Assignment} {q : RightNode} {x y : Node} → MakesNode r g m a q x → MakesNode r g m a q y → x ≡ y
made_node {x = x} {y = y} b c =
    let l : x.label ≡ y.label = cc (b.label, c.label) in
    let k : x.mark ≡ y.mark = b.mark ∙ sym c.mark in
    let o : x.root ≡ y.root = b.root ∙ sym c.root in
    λ i. record { label = l i; mark = k i; root = o i }

-- and what a right edge asks is one edge
made_edge : {r : Rule} {g : Graph} {m : Found} {a : Assignment} {is : List ℕ} {q : RightEdge} {x y : Edge} → MakesEdge r g m a is q x → MakesEdge r g m a is q y → x ≡ y
made_edge {x = x} {y = y} b c =
    let s : x.source ≡ y.source = b.source ∙ sym c.source in
    let t : x.target ≡ y.target = b.target ∙ sym c.target in
    let l : x.label ≡ y.label = cc (b.label, c.label) in
    let k : x.mark ≡ y.mark = b.mark ∙ sym c.mark in
    λ i. record { source = s i; target = t i; label = l i; mark = k i }

-- ---- what stands at each number

-- a number is one of so many from the first on, or it is none
place_of : (first count e : ℕ) → ((k : ℕ) × (k < count) × (e ≡ first + k)) ⊎ ((k : ℕ) → k < count → e ≡ first + k → ⊥)
place_of first count e =
    elim (cases_lt e first) [
      | inl l ↦ inr (λ k b d. omega arith)
      | inr l ↦ elim (cases_lt (e - first) count) [
        | inl b ↦ inl (e - first, b, omega arith)
        | inr b ↦ inr (λ k c d. omega arith)
      ]
    ]

module _ {r : Rule} {g : Graph} {m : Found} {a : Assignment} {h k : Graph} where
  -- both steps put the nodes of the right side at one place
  one_places : (s : StepAnewBy r g m a h) (t : StepAnewBy r g m a k) → t.images ≡ s.images
  one_places s t = same_images (kept_nodes r) m.nodes g.next_node t.images s.images t.places s.places

  -- at an image of a right node
  nodes_at_image : (s : StepAnewBy r g m a h) (t : StepAnewBy r g m a k) (n : ℕ) → Contains s.images n → node_at h n ≡ node_at k n
  nodes_at_image s t n c =
      let l : length s.images ≡ length r.right_nodes = s.places.count ∙ length-map r.right_nodes (λ (q : RightNode). q.origin) in
      let i : c.0 < length s.images = c.1 in
      let q = element r.right_nodes c.0 (omega arith) in
      let x = s.right_nodes c.0 q.0 q.1 in
      let y = t.right_nodes c.0 q.0 q.1 in
      let e : slice_index s.images c.0 ≡ n = standing s.images n c in
      let f : slice_index t.images c.0 ≡ n = ap (λ is. slice_index is c.0) (one_places s t) ∙ e in
      let z : x.0 ≡ y.0 = made_node x.2 y.2 in
      let u : node_at h n ≡ Some x.0 = subst (λ i. node_at h i ≡ Some x.0) e x.1 in
      let v : node_at k n ≡ Some y.0 = subst (λ i. node_at k i ≡ Some y.0) f y.1 in
      u ∙ ap (λ w. Some w) z ∙ sym v

  -- at each number of a node
  nodes_same : (s : StepAnewBy r g m a h) (t : StepAnewBy r g m a k) (n : ℕ) → node_at h n ≡ node_at k n
  nodes_same s t n =
      elim (contained s.images n) [
        | inl c ↦ nodes_at_image s t n c
        | inr out ↦ (let out' : Contains t.images n → ⊥ = subst (λ is. Contains is n → ⊥) (sym (one_places s t)) out in
            elim (contained m.nodes n) [
              | inl c ↦ s.deleted_nodes n out c ∙ sym (t.deleted_nodes n out' c)
              | inr none ↦ s.other_nodes n out none ∙ sym (t.other_nodes n out' none)
            ])
      ]

  -- at the number of a right edge
  edges_at_place : (s : StepAnewBy r g m a h) (t : StepAnewBy r g m a k) (j : ℕ) → j < length r.right_edges → edge_at h (g.next_edge + j) ≡ edge_at k (g.next_edge + j)
  edges_at_place s t j l =
      let q = element r.right_edges j l in
      let x = s.right_edges j q.0 q.1 in
      let y = t.right_edges j q.0 q.1 in
      let made : MakesEdge r g m a s.images q.0 y.0 = subst (λ is. MakesEdge r g m a is q.0 y.0) (one_places s t) y.2 in
      let z : x.0 ≡ y.0 = made_edge x.2 made in
      x.1 ∙ ap (λ w. Some w) z ∙ sym y.1

  -- at each number of an edge
  edges_same : (s : StepAnewBy r g m a h) (t : StepAnewBy r g m a k) (e : ℕ) → edge_at h e ≡ edge_at k e
  edges_same s t e =
      elim (place_of g.next_edge (length r.right_edges) e) [
        | inl p ↦ subst (λ i. edge_at h i ≡ edge_at k i) (sym p.2) (edges_at_place s t p.0 p.1)
        | inr out ↦ elim (contained m.edges e) [
          | inl c ↦ s.deleted_edges e c ∙ sym (t.deleted_edges e c)
          | inr none ↦ s.other_edges e out none ∙ sym (t.other_edges e out none)
        ]
      ]

  -- two graphs that a match leads to by one assignment
  one_graph_anew : StepAnewBy r g m a h → StepAnewBy r g m a k → h ≡ k
  one_graph_anew s t = same_graph h k (nodes_same s t) (edges_same s t) (s.next_node ∙ sym t.next_node) (s.next_edge ∙ sym t.next_edge)

-- by any assignments a match leads to one graph
pub one_step_anew : (r : Rule) (g : Graph) (m : Found) (h k : Graph) → IsWellFormed r → StepAnew r g m h → StepAnew r g m k → h ≡ k
one_step_anew r g m h k c s t =
    let e : t.0 ≡ s.0 = one_assignment c t.0 s.0 t.1.is_match s.1.is_match in
    one_graph_anew s.2 (subst (λ (a : Assignment). StepAnewBy r g m a k) e t.2)

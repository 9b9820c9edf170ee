-- A match leads to one graph: all that stands at a number of the new graph is told by the rule, the match and the
-- assignment.
use Rattle.std.proofs.Common.{◌≡◌, ◌⊎◌, inl, inr, ℕ, zero, suc, ◌<◌, List, [], ◌∷◌, length, slice_get, slice_index, get_or, Option, Some, None, Contains, sym, ap, subst, ◌∙◌, arith, ext_get_or}
use Rattle.std.proofs.lemmas.Bool.{cases_eq}
use Rattle.std.proofs.lemmas.List.{length-map, nil_from_length}
use Rattle.gp_memory.proofs.Basics.{some_at as element, standing}
use Rattle.gp_values.specs.Graph.{Graph, Node, Edge, node_at, edge_at}
use Rattle.gp_values.proofs.Graphs.{same_graph}
use Rattle.gp_syntax.specs.declared.kinds.VariableType.{VariableType}
use Rattle.gp_syntax.specs.Value.{Assignment}
use Rattle.gp_syntax.specs.Rule.{Rule, RightNode, RightEdge, Found, kept_edge, kept_nodes, kept_edges}
use Rattle.gp_syntax.specs.Step.{Places, MakesNode, MakesEdge, StepBy, Step}

-- a number that is not the first one stands behind it
in_tail : (m : ℕ) (ns : List ℕ) (n k : ℕ) → k < suc (length ns) → get_or (m ∷ ns) k n ≡ n → (m ≡ n → ⊥) → Contains ns n
in_tail m ns n zero l e d = absurd (d e)
in_tail m ns n (suc k) l e d = (k, omega arith, e)

-- a number stands in a list or it does not
pub contained : (ns : List ℕ) (n : ℕ) → Contains ns n ⊎ (Contains ns n → ⊥)
contained [] n = inr (λ c. let l : c.0 < 0 = c.1 in absurd (omega arith))
contained (m ∷ ns) n =
    elim (cases_eq m n) [
      | inl e ↦ inl (0, omega arith, e)
      | inr d ↦ elim (contained ns n) [
        | inl c ↦ (let l : c.0 < length ns = c.1 in inl (suc c.0, omega arith, c.2))
        | inr apart ↦ inr (λ c. apart (in_tail m ns n c.0 c.1 c.2 d))
      ]
    ]

-- ---- the images of the right side

-- the image of an item, by what it keeps
same_image : (kept : List (Option ℕ)) (found : List ℕ) (next : ℕ) (is js : List ℕ) → Places kept found next is → Places kept found next js → (j : ℕ) (o : Option ℕ) → slice_get kept j ≡ Some o → slice_index is j ≡ slice_index js j
same_image kept found next is js a b j None h = a.new j h ∙ sym (b.new j h)
same_image kept found next is js a b j (Some i) h = a.old j i h ∙ sym (b.old j i h)

-- two maps of the right side are one
pub same_images : (kept : List (Option ℕ)) (found : List ℕ) (next : ℕ) (is js : List ℕ) → Places kept found next is → Places kept found next js → is ≡ js
same_images kept found next is js a b =
    ext_get_or 0 is js (a.count ∙ sym b.count) (λ j l.
    let k : length is ≡ length kept = a.count in
    let s = element kept j (omega arith) in
    same_image kept found next is js a b j s.0 s.1)

-- ---- what is made

-- a node is what it carries
same_node : (x y : Node) → x.label ≡ y.label → x.mark ≡ y.mark → x.root ≡ y.root → x ≡ y
same_node x y a b c = λ i. record { label = a i; mark = b i; root = c i }

-- and so is an edge
same_edge : (x y : Edge) → x.source ≡ y.source → x.target ≡ y.target → x.label ≡ y.label → x.mark ≡ y.mark → x ≡ y
same_edge x y a b c d = λ i. record { source = a i; target = b i; label = c i; mark = d i }

-- what a right node asks is one node
made_node : {r : Rule} {g : Graph} {m : Found} {a : Assignment} {q : RightNode} {x y : Node} → MakesNode r g m a q x → MakesNode r g m a q y → x ≡ y
made_node {x = x} {y = y} b c =
    let l : x.label ≡ y.label = cc (b.label, c.label) in
    same_node x y l (b.mark ∙ sym c.mark) (b.root ∙ sym c.root)

-- what a right edge asks is one edge
made_edge : {r : Rule} {g : Graph} {m : Found} {a : Assignment} {is : List ℕ} {q : RightEdge} {x y : Edge} → MakesEdge r g m a is q x → MakesEdge r g m a is q y → x ≡ y
made_edge {x = x} {y = y} b c =
    let l : x.label ≡ y.label = cc (b.label, c.label) in
    same_edge x y (b.source ∙ sym c.source) (b.target ∙ sym c.target) l (b.mark ∙ sym c.mark)

-- ---- what stands at each number

module _ {r : Rule} {g : Graph} {m : Found} {a : Assignment} {h k : Graph} where
  -- both steps put the right side at one place
  one_places : (s : StepBy r g m a h) (t : StepBy r g m a k) → t.images ≡ s.images
  one_places s t = same_images (kept_nodes r) m.nodes g.next_node t.images s.images t.places s.places

  one_edge_places : (s : StepBy r g m a h) (t : StepBy r g m a k) → t.edge_images ≡ s.edge_images
  one_edge_places s t = same_images (kept_edges r) m.edges g.next_edge t.edge_images s.edge_images t.edge_places s.edge_places

  -- at an image of a right node
  nodes_at_image : (s : StepBy r g m a h) (t : StepBy r g m a k) (n : ℕ) → Contains s.images n → node_at h n ≡ node_at k n
  nodes_at_image s t n c =
      let l : length s.images ≡ length r.right_nodes = s.places.count ∙ length-map r.right_nodes (λ (q : RightNode). q.origin) in
      let i : c.0 < length s.images = c.1 in
      let q = element r.right_nodes c.0 (omega arith) in
      let x = s.right_nodes c.0 q.0 q.1 in
      let y = t.right_nodes c.0 q.0 q.1 in
      let e : slice_index s.images c.0 ≡ n = standing s.images n c in
      let f : slice_index t.images c.0 ≡ n = ap (λ is. slice_index is c.0) (one_places s t) ∙ e in
      let z : x.0 ≡ y.0 = made_node x.2 y.2 in
      let u : node_at h n ≡ Some x.0 = subst (λ i. node_at h i ≡ Some x.0) e x.1 in
      let v : node_at k n ≡ Some y.0 = subst (λ i. node_at k i ≡ Some y.0) f y.1 in
      u ∙ ap (λ w. Some w) z ∙ sym v

  -- at each number of a node
  nodes_same : (s : StepBy r g m a h) (t : StepBy r g m a k) (n : ℕ) → node_at h n ≡ node_at k n
  nodes_same s t n =
      elim (contained s.images n) [
        | inl c ↦ nodes_at_image s t n c
        | inr out ↦ (let out' : Contains t.images n → ⊥ = subst (λ is. Contains is n → ⊥) (sym (one_places s t)) out in
            elim (contained m.nodes n) [
              | inl c ↦ s.deleted_nodes n out c ∙ sym (t.deleted_nodes n out' c)
              | inr none ↦ s.other_nodes n out none ∙ sym (t.other_nodes n out' none)
            ])
      ]

  -- at an image of a right edge
  edges_at_image : (s : StepBy r g m a h) (t : StepBy r g m a k) (e : ℕ) → Contains s.edge_images e → edge_at h e ≡ edge_at k e
  edges_at_image s t n c =
      let l : length s.edge_images ≡ length r.right_edges = s.edge_places.count ∙ length-map r.right_edges (kept_edge r) in
      let i : c.0 < length s.edge_images = c.1 in
      let q = element r.right_edges c.0 (omega arith) in
      let x = s.right_edges c.0 q.0 q.1 in
      let y = t.right_edges c.0 q.0 q.1 in
      let e : slice_index s.edge_images c.0 ≡ n = standing s.edge_images n c in
      let f : slice_index t.edge_images c.0 ≡ n = ap (λ is. slice_index is c.0) (one_edge_places s t) ∙ e in
      let made : MakesEdge r g m a s.images q.0 y.0 = subst (λ is. MakesEdge r g m a is q.0 y.0) (one_places s t) y.2 in
      let z : x.0 ≡ y.0 = made_edge x.2 made in
      let u : edge_at h n ≡ Some x.0 = subst (λ i. edge_at h i ≡ Some x.0) e x.1 in
      let v : edge_at k n ≡ Some y.0 = subst (λ i. edge_at k i ≡ Some y.0) f y.1 in
      u ∙ ap (λ w. Some w) z ∙ sym v

  -- at each number of an edge
  edges_same : (s : StepBy r g m a h) (t : StepBy r g m a k) (e : ℕ) → edge_at h e ≡ edge_at k e
  edges_same s t e =
      elim (contained s.edge_images e) [
        | inl c ↦ edges_at_image s t e c
        | inr out ↦ (let out' : Contains t.edge_images e → ⊥ = subst (λ is. Contains is e → ⊥) (sym (one_edge_places s t)) out in
            elim (contained m.edges e) [
              | inl c ↦ s.deleted_edges e out c ∙ sym (t.deleted_edges e out' c)
              | inr none ↦ s.other_edges e out none ∙ sym (t.other_edges e out' none)
            ])
      ]

  -- two graphs that a match leads to by one assignment
  pub one_graph : StepBy r g m a h → StepBy r g m a k → h ≡ k
  one_graph s t = same_graph h k (nodes_same s t) (edges_same s t) (s.next_node ∙ sym t.next_node) (s.next_edge ∙ sym t.next_edge)

-- where no variable stands in a left label, the assignment is the empty one
no_variables : {r : Rule} {g : Graph} {m : Found} {h : Graph} → r.types ≡ [] → (s : Step r g m h) → s.0 ≡ []
no_variables none s = nil_from_length s.0 (s.1.is_match.variable_count ∙ ap (λ (ts : List VariableType). length ts) none)

-- and by any two assignments, where there is but one
pub one_graph_of_any : (r : Rule) (g : Graph) (m : Found) (h k : Graph) → r.types ≡ [] → Step r g m h → Step r g m k → h ≡ k
one_graph_of_any r g m h k none s t =
    let e : t.0 ≡ s.0 = no_variables none t ∙ sym (no_variables none s) in
    one_graph s.2 (subst (λ (a : Assignment). StepBy r g m a k) e t.2)

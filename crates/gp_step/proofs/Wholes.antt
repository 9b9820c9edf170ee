-- The graph after a step is a graph, and its numbers are below its next ones.
use Rattle.std.proofs.Common.{◌≡◌, ◌⊎◌, inl, inr, ℕ, zero, suc, ◌+◌, ◌<◌, Bool, true, false, if◌then◌else◌, List, [], ◌∷◌, ◌++◌, All, map, length, Option, Some, IsSome, slice_get, slice_index, Contains, refl, sym, ap, subst, ◌∙◌, arith}
use Rattle.std.specs.Option.{option_map}
use Rattle.std.proofs.lemmas.Option.{none-some, slice_get-map, slice_get_within, get_or_from_slice_get}
use Rattle.std.proofs.lemmas.List.{length-map}
use Rattle.gp_memory.proofs.Basics.{is_some_of as is_some, some_at as element, some_same, some_there as some_is, standing, stands_in}
use Rattle.gp_values.specs.declared.atom.Atom.{Atom}
use Rattle.gp_values.specs.Atoms.{AreAtoms}
use Rattle.gp_values.specs.Graph.{Graph, Node, Edge, IsGraph, node_at, edge_at}
use Rattle.gp_syntax.specs.Expression.{Expression}
use Rattle.gp_syntax.specs.Value.{Assignment, Value, value_of}
use Rattle.gp_syntax.specs.Rule.{Rule, RightNode, RightEdge, Found, IsKept, kept_edge, kept_nodes, kept_edges}
use Rattle.gp_syntax.specs.Match.{MatchBy, setting_of}
use Rattle.gp_syntax.specs.Step.{MakesNode, MakesEdge, right_labels, StepBy, Applies}
use Rattle.gp_syntax.specs.WellFormed.{IsWellFormed}
use Rattle.gp_step.specs.Edits.{origin_of}
use Rattle.gp_step.specs.After.{after}
use Rattle.gp_step.specs.Laws.{MakesAtoms, IsNumbered, HasOneStep}
use Rattle.gp_syntax.proofs.Unique.{contained}
use Rattle.gp_step.proofs.Halves.{stood, image_below}
use Rattle.gp_step.proofs.Afters.{keeps_nodes, keeps_edges, leads_on, only_steps, numbered}

-- ---- labels

pub at_label : (P : Expression ℕ → Type 0) (es : List (Expression ℕ)) → All P es → (j : ℕ) (e : Expression ℕ) → slice_get es j ≡ Some e → P e
at_label P es h j e i = subst P (get_or_from_slice_get es j e e i) (h j e (slice_get_within es j e i))

pub all_left : (P : Expression ℕ → Type 0) (es fs : List (Expression ℕ)) → All P (es ++ fs) → (j : ℕ) (e : Expression ℕ) → slice_get es j ≡ Some e → P e
all_left P [] fs h j e i = absurd (none-some e i)
all_left P (x ∷ es) fs h zero e i = at_label P (x ∷ es ++ fs) h zero e i
all_left P (x ∷ es) fs h (suc j) e i = all_left P es fs (λ k d l. h (suc k) d (omega arith)) j e i

pub all_right : (P : Expression ℕ → Type 0) (es fs : List (Expression ℕ)) → All P (es ++ fs) → All P fs
all_right P [] fs h = h
all_right P (x ∷ es) fs h = all_right P es fs (λ k d l. h (suc k) d (omega arith))

-- ---- used numbers are below the next ones

below_next : {X : Type 0} (o : Option X) (images found : List ℕ) (n next more : ℕ) → IsSome o → (IsSome o → n < next) → n < next + more
below_next o images found n next more s h = let b = h s in omega arith

module _ {r : Rule} {g : Graph} {m : Found} {a : Assignment} {h : Graph} (o : IsWellFormed r) (b : IsNumbered g) (w : MatchBy r g m a) (s : StepBy r g m a h) where
  node_stood : (n : ℕ) (x : Node) → node_at h n ≡ Some x → Contains s.images n ⊎ ((Contains s.images n → ⊥) × (Contains m.nodes n → ⊥) × (node_at g n ≡ Some x))
  node_stood = stood s.images m.nodes g.nodes h.nodes s.deleted_nodes s.other_nodes

  edge_stood : (n : ℕ) (x : Edge) → edge_at h n ≡ Some x → Contains s.edge_images n ⊎ ((Contains s.edge_images n → ⊥) × (Contains m.edges n → ⊥) × (edge_at g n ≡ Some x))
  edge_stood = stood s.edge_images m.edges g.edges h.edges s.deleted_edges s.other_edges

  pub numbered_step : IsNumbered h
  numbered_step = record {
    nodes_below = λ n t.
        let x = some_is (node_at h n) t in
        subst (λ k. n < k) (sym s.next_node) (elim (node_stood n x.0 x.1) [
          | inl c ↦ image_below (kept_nodes r) m.nodes g.next_node s.images (keeps_nodes r g m a b w o) s.places n c
          | inr c ↦ (let l : n < g.next_node = b.nodes_below n (is_some _ x.0 c.2) in omega arith)
        ]);
    edges_below = λ n t.
        let x = some_is (edge_at h n) t in
        subst (λ k. n < k) (sym s.next_edge) (elim (edge_stood n x.0 x.1) [
          | inl c ↦ image_below (kept_edges r) m.edges g.next_edge s.edge_images (keeps_edges r g m a b w o) s.edge_places n c
          | inr c ↦ (let l : n < g.next_edge = b.edges_below n (is_some _ x.0 c.2) in omega arith)
        ]);
  }

  -- ---- the ends of edges

  -- at the image of a right node is one
  image_there : (j : ℕ) → j < length r.right_nodes → IsSome (node_at h (slice_index s.images j))
  image_there j l = let q = element r.right_nodes j l in let x = s.right_nodes j q.0 q.1 in is_some _ x.0 x.1

  either_there : (c : Bool) (i j : ℕ) → i < length r.right_nodes → j < length r.right_nodes → IsSome (node_at h (slice_index s.images (if c then i else j)))
  either_there true i j k l = image_there i k
  either_there false i j k l = image_there j l

  -- the right node at an image, and the right edge
  node_made : (n : ℕ) (x : Node) → node_at h n ≡ Some x → Contains s.images n → (j : ℕ) × (q : RightNode) × (slice_get r.right_nodes j ≡ Some q) × MakesNode r g m a q x
  node_made n x e c =
      let k : length s.images ≡ length r.right_nodes = s.places.count ∙ length-map r.right_nodes origin_of in
      let i : c.0 < length s.images = c.1 in
      let q = element r.right_nodes c.0 (omega arith) in
      let y = s.right_nodes c.0 q.0 q.1 in
      let f : y.0 ≡ x = some_same (sym y.1 ∙ ap (node_at h) (standing s.images n c) ∙ e) in
      (c.0, q.0, q.1, subst (MakesNode r g m a q.0) f y.2)

  edge_made : (n : ℕ) (x : Edge) → edge_at h n ≡ Some x → Contains s.edge_images n → (j : ℕ) × (q : RightEdge) × (slice_get r.right_edges j ≡ Some q) × MakesEdge r g m a s.images q x
  edge_made n x e c =
      let k : length s.edge_images ≡ length r.right_edges = s.edge_places.count ∙ length-map r.right_edges (kept_edge r) in
      let i : c.0 < length s.edge_images = c.1 in
      let q = element r.right_edges c.0 (omega arith) in
      let y = s.right_edges c.0 q.0 q.1 in
      let f : y.0 ≡ x = some_same (sym y.1 ∙ ap (edge_at h) (standing s.edge_images n c) ∙ e) in
      (c.0, q.0, q.1, subst (MakesEdge r g m a s.images q.0) f y.2)

  -- an end of an edge that was not found is still there
  end_there : (e n : ℕ) (d : Edge) → edge_at g e ≡ Some d → (Contains m.edges e → ⊥) → (d.source ≡ n) ⊎ (d.target ≡ n) → IsSome (node_at g n) → IsSome (node_at h n)
  end_there e n d i none at t =
      elim (contained s.images n) [
        | inl c ↦
            (let k : length s.images ≡ length r.right_nodes = s.places.count ∙ length-map r.right_nodes origin_of in
            let l : c.0 < length s.images = c.1 in
            subst (λ z. IsSome (node_at h z)) (standing s.images n c) (image_there c.0 (omega arith)))
        | inr out ↦ elim (contained m.nodes n) [
          | inl c ↦
              (let k : length m.nodes ≡ length r.left_nodes = w.node_count in
              let l : c.0 < length m.nodes = c.1 in
              let f : slice_index m.nodes c.0 ≡ n = standing m.nodes n c in
              let unkept : IsKept r c.0 → ⊥ = λ z.
              let p : slice_get (kept_nodes r) z.0 ≡ Some (Some c.0) = slice_get-map origin_of r.right_nodes z.0 ∙ ap (option_map origin_of) z.2 ∙ ap (λ y. Some y) z.3 in
              let v : length s.images ≡ length r.right_nodes = s.places.count ∙ length-map r.right_nodes origin_of in
              let u : z.0 < length r.right_nodes = slice_get_within r.right_nodes z.0 z.1 z.2 in
              out (stands_in s.images z.0 n (omega arith) (s.places.old z.0 c.0 p ∙ f)) in
              absurd (none (w.dangling c.0 e d (omega arith) unkept i (elim at [ inl y ↦ inl (y ∙ sym f) | inr y ↦ inr (y ∙ sym f) ]))))
          | inr other ↦ rw (s.other_nodes n out other) t
        ]
      ]

  pub whole_step : IsGraph g → All (λ (e : Expression ℕ). (v : List Atom) → value_of e (setting_of r g m a) ≡ Value v → AreAtoms v) (right_labels r) → IsGraph h
  whole_step whole atoms =
      let P : Expression ℕ → Type 0 = λ e. (v : List Atom) → value_of e (setting_of r g m a) ≡ Value v → AreAtoms v in
      let ns = map (λ (q : RightNode). q.label) r.right_nodes in
      let es = map (λ (q : RightEdge). q.label) r.right_edges in
      record {
        nodes_below = numbered_step.nodes_below;
        edges_below = numbered_step.edges_below;
        sources = λ e d i.
            elim (edge_stood e d i) [
              | inl c ↦ (let q = edge_made e d i c in let l = o.right_ends q.0 q.1 q.2 in subst (λ n. IsSome (node_at h n)) (sym q.3.source) (either_there _ q.1.target q.1.source l.1 l.0))
              | inr c ↦ end_there e d.source d c.2 c.1 (inl refl) (whole.sources e d c.2)
            ];
        targets = λ e d i.
            elim (edge_stood e d i) [
              | inl c ↦ (let q = edge_made e d i c in let l = o.right_ends q.0 q.1 q.2 in subst (λ n. IsSome (node_at h n)) (sym q.3.target) (either_there _ q.1.source q.1.target l.0 l.1))
              | inr c ↦ end_there e d.target d c.2 c.1 (inr refl) (whole.targets e d c.2)
            ];
        node_labels = λ n x e.
            elim (node_stood n x e) [
              | inl c ↦
                  (let q = node_made n x e c in
                  all_left P ns es atoms q.0 q.1.label (slice_get-map (λ (z : RightNode). z.label) r.right_nodes q.0 ∙ ap (option_map (λ (z : RightNode). z.label)) q.2) x.label q.3.label)
              | inr c ↦ whole.node_labels n x c.2
            ];
        edge_labels = λ n x e.
            elim (edge_stood n x e) [
              | inl c ↦
                  (let q = edge_made n x e c in
                  at_label P es (all_right P ns es atoms) q.0 q.1.label (slice_get-map (λ (z : RightEdge). z.label) r.right_edges q.0 ∙ ap (option_map (λ (z : RightEdge). z.label)) q.2) x.label q.3.label)
              | inr c ↦ whole.edge_labels n x c.2
            ];
      }

-- ---- of a checked rule

pub numbered_after : (r : Rule) (g : Graph) (m : Found) → IsWellFormed r → IsNumbered g → Applies r g m → IsNumbered (after r g m)
numbered_after r g m c b k = let s = leads_on r g m c b k in numbered_step c b s.1.is_match s.2

pub whole_after : (r : Rule) (g : Graph) (m : Found) → IsWellFormed r → IsGraph g → Applies r g m → MakesAtoms r g m → IsGraph (after r g m)
whole_after r g m c whole k atoms =
    let b = numbered g whole in
    let s = leads_on r g m c b k in
    whole_step c b s.1.is_match s.2 whole (atoms s.0 s.1.is_match)

pub one_step_on : (r : Rule) (g : Graph) (m : Found) → IsWellFormed r → IsNumbered g → HasOneStep r g m
one_step_on r g m c w = record { leads = leads_on r g m c w; only = only_steps r g m c w; numbered = numbered_after r g m c w; whole = whole_after r g m c }

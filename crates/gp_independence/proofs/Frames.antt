-- What a step leaves of the rest of a graph: old nodes and edges outside its images, and all edges at such a node.
use Rattle.std.proofs.Common.{inl, inr, ◌≡◌, ℕ, ◌<◌, ◌==◌, Bool, true, false, if◌then◌else◌, List, length, refl, sym, ap, subst, ◌∙◌, arith}
use Rattle.std.specs.Prelude.{◌⊎◌, ◌↔◌, Option, Some, None, IsSomeAnd, Contains, slice_get, slice_index, slice_index_or}
use Rattle.std.specs.List.{list_any}
use Rattle.std.specs.FinMap.{entries}
use Rattle.std.proofs.lemmas.Bool.Decides.{Decides-eqb, same_from_decides}
use Rattle.std.proofs.lemmas.List.{length-map}
use Rattle.gp_memory.proofs.Basics.{is_some_of as is_some, some_at as element, some_same, standing, stands_in}
use Rattle.gp_values.specs.Graph.{Graph, Edge, node_at, edge_at, in_degree, out_degree}
use Rattle.gp_graph.specs.Walks.{Walks, BeginsAt, EndsAt}
use Rattle.gp_graph.proofs.Numbers.{Walks-same}
use Rattle.gp_graph.proofs.Degrees.{chosen, Walks-chosen, says, in_degree-walk, out_degree-walk}
use Rattle.gp_syntax.specs.Value.{Assignment}
use Rattle.gp_syntax.specs.Rule.{Rule, Found, kept_edge, kept_nodes, kept_edges}
use Rattle.gp_syntax.specs.Match.{MatchBy, FitsEdge, setting_of}
use Rattle.gp_syntax.specs.Step.{Places, MakesEdge, is_exchanged, StepBy}
use Rattle.gp_syntax.specs.WellFormed.{IsWellFormed}
use Rattle.gp_eval.proofs.Between.{at_any, any_at}
use Rattle.gp_step.specs.Edits.{origin_of}
use Rattle.gp_step.specs.Laws.{IsNumbered}
use Rattle.gp_step.proofs.Halves.{Keeps, stood}
use Rattle.gp_step.proofs.Afters.{keeps_nodes, keeps_edges}

pub some_at : {X : Type 0} (P : X → Type 0) (o : Option X) → IsSomeAnd o P → (x : X) × (o ≡ Some x) × P x
some_at P None h = absurd h
some_at P (Some x) h = (x, refl, h)

pub at_some : {X : Type 0} (P : X → Type 0) (o : Option X) (x : X) → o ≡ Some x → P x → IsSomeAnd o P
at_some P o x e h = subst (λ z. IsSomeAnd z P) (sym e) h

-- ---- images

module _ {kept : List (Option ℕ)} {found : List ℕ} {next : ℕ} {images : List ℕ} (c : Keeps kept found next) (p : Places kept found next images) where
  old_by : (j n : ℕ) (o : Option ℕ) → slice_get kept j ≡ Some o → slice_index images j ≡ n → n < next → Contains found n
  old_by j n (Some i) e s l = stands_in found i n (c.within j i e) (sym (p.old j i e) ∙ s)
  old_by j n None e s l = absurd (let k = p.new j e in omega arith)

  -- an image of the right side below the new numbers is one of the left side
  pub old_image : (n : ℕ) → n < next → Contains images n → Contains found n
  old_image n l i =
      let b : length images ≡ length kept = p.count in
      let k : i.0 < length images = i.1 in
      let o = element kept i.0 (omega arith) in
      old_by i.0 n o.0 o.1 (standing images n i) l

-- what was found is below the new numbers
pub found_below : {kept : List (Option ℕ)} {found : List ℕ} {next : ℕ} → Keeps kept found next → (n : ℕ) → Contains found n → n < next
found_below {found = found} {next = next} c n i = subst (λ z. z < next) (standing found n i) (c.below i.0 i.1)

either_place : (ns : List ℕ) (b : Bool) (j k : ℕ) → j < length ns → k < length ns → Contains ns (slice_index ns (if b then j else k))
either_place ns true j k l n = stands_in ns j (slice_index ns j) l refl
either_place ns false j k l n = stands_in ns k (slice_index ns k) n refl

-- ---- what a step leaves

-- ns, es: the images of nodes and edges. An edge that is taken, made or changed goes between images and new nodes.
pub record Frame (g h : Graph) (ns es : List ℕ) : Type 0 where
  pub nodes : (n : ℕ) → n < g.next_node → (Contains ns n → ⊥) → node_at h n ≡ node_at g n
  pub edges : (e : ℕ) → e < g.next_edge → (Contains es e → ⊥) → edge_at h e ≡ edge_at g e
  pub before : (e : ℕ) (d : Edge) → Contains es e → edge_at g e ≡ Some d → Contains ns d.source × Contains ns d.target
  pub after : (e : ℕ) (d : Edge) → edge_at h e ≡ Some d
      → (edge_at g e ≡ Some d) ⊎ ((d.source < g.next_node → Contains ns d.source) × (d.target < g.next_node → Contains ns d.target))

module _ {r : Rule} {g h : Graph} {m : Found} {a : Assignment} (o : IsWellFormed r) (whole : IsNumbered g) (w : MatchBy r g m a) (t : StepBy r g m a h) where
  pub nodes_kept : Keeps (kept_nodes r) m.nodes g.next_node
  nodes_kept = keeps_nodes r g m a whole w o

  pub edges_kept : Keeps (kept_edges r) m.edges g.next_edge
  edges_kept = keeps_edges r g m a whole w o

  taken : (e : ℕ) (d : Edge) → Contains m.edges e → edge_at g e ≡ Some d → Contains m.nodes d.source × Contains m.nodes d.target
  taken e d c s =
      let n : length m.edges ≡ length r.left_edges = w.edge_count in
      let k : length m.nodes ≡ length r.left_nodes = w.node_count in
      let b : c.0 < length m.edges = c.1 in
      let p = element r.left_edges c.0 (omega arith) in
      let ends = o.left_ends c.0 p.0 p.1 in
      let bs : p.0.source < length m.nodes = subst (λ z. p.0.source < z) (sym k) ends.0 in
      let bt : p.0.target < length m.nodes = subst (λ z. p.0.target < z) (sym k) ends.1 in
      let reversed : Bool = slice_index_or m.reversed c.0 false in
      let f : FitsEdge (setting_of r g m a) p.0 reversed d = subst (λ z. IsSomeAnd z (FitsEdge (setting_of r g m a) p.0 reversed)) (ap (edge_at g) (standing m.edges e c) ∙ s) (w.edges c.0 p.0 p.1) in (
        subst (Contains m.nodes) (sym f.source) (either_place m.nodes reversed p.0.target p.0.source bt bs),
        subst (Contains m.nodes) (sym f.target) (either_place m.nodes reversed p.0.source p.0.target bs bt),
      )

  either_old : (b : Bool) (j k : ℕ) → j < length r.right_nodes → k < length r.right_nodes → slice_index t.images (if b then j else k) < g.next_node → Contains m.nodes (slice_index t.images (if b then j else k))
  either_old b j k l n below =
      let c : length t.images ≡ length r.right_nodes = t.places.count ∙ length-map r.right_nodes origin_of in
      old_image nodes_kept t.places (slice_index t.images (if b then j else k)) below (either_place t.images b j k (omega arith) (omega arith))

  -- what is made, or kept
  made : (e : ℕ) (d : Edge) → Contains t.edge_images e → edge_at h e ≡ Some d → (d.source < g.next_node → Contains m.nodes d.source) × (d.target < g.next_node → Contains m.nodes d.target)
  made e d c there =
      let l : c.0 < length t.edge_images = c.1 in
      let k : length t.edge_images ≡ length r.right_edges = t.edge_places.count ∙ length-map r.right_edges (kept_edge r) in
      let q = element r.right_edges c.0 (omega arith) in
      let x = t.right_edges c.0 q.0 q.1 in
      let same : x.0 ≡ d = some_same (sym x.1 ∙ ap (edge_at h) (standing t.edge_images e c) ∙ there) in
      let f : MakesEdge r g m a t.images q.0 d = subst (MakesEdge r g m a t.images q.0) same x.2 in
      let ends = o.right_ends c.0 q.0 q.1 in (
        λ b. subst (Contains m.nodes) (sym f.source) (either_old (is_exchanged m q.0) q.0.target q.0.source ends.1 ends.0 (subst (λ z. z < g.next_node) f.source b)),
        λ b. subst (Contains m.nodes) (sym f.target) (either_old (is_exchanged m q.0) q.0.source q.0.target ends.0 ends.1 (subst (λ z. z < g.next_node) f.target b)),
      )

  after_at : (e : ℕ) (d : Edge) → edge_at h e ≡ Some d → (edge_at g e ≡ Some d) ⊎ ((d.source < g.next_node → Contains m.nodes d.source) × (d.target < g.next_node → Contains m.nodes d.target))
  after_at e d there =
      elim (stood t.edge_images m.edges g.edges h.edges t.deleted_edges t.other_edges e d there) [
        | inl c ↦ inr (made e d c there)
        | inr k ↦ inl k.2
      ]

  pub frame : Frame g h m.nodes m.edges
  frame = record {
    nodes = λ n l out. t.other_nodes n (λ c. out (old_image nodes_kept t.places n l c)) out;
    edges = λ e l out. t.other_edges e (λ c. out (old_image edges_kept t.edge_places e l c)) out;
    before = taken;
    after = after_at;
  }

-- ---- the edges at an old node outside the images

module _ {g h : Graph} {ns es : List ℕ} (whole : IsNumbered g) (f : Frame g h ns es) (n : ℕ) (below : n < g.next_node) (out : Contains ns n → ⊥) where
  abbrev Touches : Edge → Type 0
  Touches d = (d.source ≡ n) ⊎ (d.target ≡ n)

  still : (e : ℕ) (d : Edge) → edge_at g e ≡ Some d → Touches d → edge_at h e ≡ Some d
  still e d s t =
      let free : Contains es e → ⊥ = λ c.
      let b = f.before e d c s in
      elim t [ inl x ↦ out (subst (Contains ns) x b.0) | inr x ↦ out (subst (Contains ns) x b.1) ] in
      f.edges e (whole.edges_below e (is_some (edge_at g e) d s)) free ∙ s

  pub was : (e : ℕ) (d : Edge) → edge_at h e ≡ Some d → Touches d → edge_at g e ≡ Some d
  was e d s t =
      elim (f.after e d s) [
        | inl k ↦ k
        | inr k ↦ elim t [
          | inl x ↦ absurd (out (subst (Contains ns) x (k.0 (subst (λ z. z < g.next_node) (sym x) below))))
          | inr x ↦ absurd (out (subst (Contains ns) x (k.1 (subst (λ z. z < g.next_node) (sym x) below))))
        ]
      ]

  same_edges : (P : Edge → Type 0) → ((d : Edge) → P d → Touches d) → (e : ℕ) → IsSomeAnd (edge_at g e) P ↔ IsSomeAnd (edge_at h e) P
  same_edges P touch e = (
    λ k. let x = some_at P (edge_at g e) k in at_some P (edge_at h e) x.0 (still e x.0 x.1 (touch x.0 x.2)) x.2,
    λ k. let x = some_at P (edge_at h e) k in at_some P (edge_at g e) x.0 (was e x.0 x.1 (touch x.0 x.2)) x.2,
  )

  abbrev ending : List ℕ
  ending = chosen (λ (d : Edge). d.target == n) (entries g.edges)

  abbrev beginning : List ℕ
  beginning = chosen (λ (d : Edge). d.source == n) (entries g.edges)

  Walks-ending : Walks ending (EndsAt g n)
  Walks-ending = Walks-same _ (λ k. IsSomeAnd (edge_at g k) (λ d. (d.target == n) ≡ true)) (EndsAt g n) (λ k. says (λ (d : Edge). d.target == n) (λ d. d.target ≡ n) (λ d. Decides-eqb d.target n) (edge_at g k)) (Walks-chosen (λ (d : Edge). d.target == n) g.edges)

  Walks-beginning : Walks beginning (BeginsAt g n)
  Walks-beginning = Walks-same _ (λ k. IsSomeAnd (edge_at g k) (λ d. (d.source == n) ≡ true)) (BeginsAt g n) (λ k. says (λ (d : Edge). d.source == n) (λ d. d.source ≡ n) (λ d. Decides-eqb d.source n) (edge_at g k)) (Walks-chosen (λ (d : Edge). d.source == n) g.edges)

  pub in_same : in_degree h n ≡ in_degree g n
  in_same =
      sym (in_degree-walk h n ending (Walks-same ending (EndsAt g n) (EndsAt h n) (same_edges (λ d. d.target ≡ n) (λ d e. inr e)) Walks-ending))
      ∙ in_degree-walk g n ending Walks-ending

  pub out_same : out_degree h n ≡ out_degree g n
  out_same =
      sym (out_degree-walk h n beginning (Walks-same beginning (BeginsAt g n) (BeginsAt h n) (same_edges (λ d. d.source ≡ n) (λ d e. inl e)) Walks-beginning))
      ∙ out_degree-walk g n beginning Walks-beginning

  -- whether some edge that touches it passes a test
  pub any_same : (test : Edge → Bool) → ((d : Edge) → test d ≡ true → Touches d) → list_any (λ (e : ℕ × Edge). test e.1) (entries h.edges) ≡ list_any (λ (e : ℕ × Edge). test e.1) (entries g.edges)
  any_same test touch =
      same_from_decides {P = list_any (λ (e : ℕ × Edge). test e.1) (entries g.edges) ≡ true} (list_any (λ (e : ℕ × Edge). test e.1) (entries h.edges)) (list_any (λ (e : ℕ × Edge). test e.1) (entries g.edges)) (
        λ e. let k = any_at test h.edges e in at_any test g.edges k.0 ((same_edges (λ d. test d ≡ true) touch k.0).1 k.1),
        λ e. let k = any_at test g.edges e in at_any test h.edges k.0 ((same_edges (λ d. test d ≡ true) touch k.0).0 k.1),
      )
      (λ e. e, λ e. e)

-- What a match makes after the step of an independent one, against what it makes before it.
use Rattle.std.proofs.Common.{◌≡◌, inl, inr, ℕ, zero, suc, ◌+◌, ◌<◌, ◌≤◌, Bool, true, false, if◌then◌else◌, List, [], ◌∷◌, take, length, count_by, Option, Some, None, is_none, slice_get, slice_index, Contains, refl, sym, ap, subst, ◌∙◌, arith}
use Rattle.std.specs.Option.{option_map}
use Rattle.std.proofs.lemmas.List.{length-map}
use Rattle.std.proofs.lemmas.Option.{slice_get_within}
use Rattle.gp_memory.proofs.Basics.{some_at as element, standing, stands_in}
use Rattle.gp_values.specs.Graph.{Graph, node_at, edge_at}
use Rattle.gp_syntax.specs.Rule.{Rule, RightEdge, Found, kept_edge, kept_nodes, kept_edges}
use Rattle.gp_syntax.specs.Step.{Places, MakesEdge, is_exchanged, Step}
use Rattle.gp_syntax.specs.WellFormed.{IsWellFormed}
use Rattle.gp_syntax.proofs.Unique.{contained}
use Rattle.gp_step.specs.Edits.{origin_of}
use Rattle.gp_step.specs.Laws.{IsNumbered}
use Rattle.gp_step.proofs.Halves.{Keeps, count-cons, count_below}
use Rattle.gp_step.proofs.Afters.{keeps_nodes, keeps_edges}
use Rattle.gp_independence.specs.Independent.{Independent}
use Rattle.gp_independence.specs.Laws.{moved}
use Rattle.gp_independence.proofs.Frames.{found_below}
use Rattle.gp_independence.proofs.Second.{edge_makes}
use Rattle.gp_independence.proofs.Kept.{by_one, same_made}

-- ---- new numbers

-- the item that gets a new number
pub record NewPlace (kept : List (Option ℕ)) (p : ℕ) : Type 0 where
  pub place : ℕ
  pub new : slice_get kept place ≡ Some None
  pub before : count_by is_none (take place kept) ≡ p

new_place : (kept : List (Option ℕ)) (p : ℕ) → p < count_by is_none kept → NewPlace kept p
new_place [] p l = absurd (omega arith)
new_place (None ∷ os) zero l = record { place = 0; new = refl; before = refl }
new_place (None ∷ os) (suc p) l =
    let c = count-cons None os in
    let y = new_place os p (omega arith) in
    let d = count-cons None (take y.place os) in
    let b = y.before in
    record { place = suc y.place; new = y.new; before = omega arith }
new_place (Some i ∷ os) p l =
    let c = count-cons (Some i) os in
    let y = new_place os p (omega arith) in
    let d = count-cons (Some i) (take y.place os) in
    let b = y.before in
    record { place = suc y.place; new = y.new; before = omega arith }

-- ---- one half of a graph, its nodes or its edges

-- is: the images of a step made at once; js: those of one made later, when more numbers are used
module _ {kept : List (Option ℕ)} {found : List ℕ} {next later : ℕ} {is js : List ℕ} (c : Keeps kept found next) (up : next ≤ later) (p : Places kept found next is) (q : Places kept found later js) where
  same_by : (j n : ℕ) (o : Option ℕ) → slice_get kept j ≡ Some o → slice_index is j ≡ n → n < next → slice_index js j ≡ n
  same_by j n (Some i) e s l = q.old j i e ∙ sym (p.old j i e) ∙ s
  same_by j n None e s l = absurd (let k = p.new j e in omega arith)

  was_by : (j n : ℕ) (o : Option ℕ) → slice_get kept j ≡ Some o → slice_index js j ≡ n → n < next → slice_index is j ≡ n
  was_by j n (Some i) e s l = p.old j i e ∙ sym (q.old j i e) ∙ s
  was_by j n None e s l = absurd (let k = q.new j e in omega arith)

  -- an old image of the later step is one of the other
  was_image : (n : ℕ) → n < next → Contains js n → Contains is n
  was_image n l i =
      let b : length js ≡ length kept = q.count in
      let d : length is ≡ length kept = p.count in
      let k : i.0 < length js = i.1 in
      let o = element kept i.0 (omega arith) in
      stands_in is i.0 n (omega arith) (was_by i.0 n o.0 o.1 (standing js n i) l)

  -- images move as numbers do
  pub image_moves : (f : ℕ → ℕ) → ((n : ℕ) → n < next → f n ≡ n) → ((k : ℕ) → k < count_by is_none kept → f (next + k) ≡ later + k)
      → (j : ℕ) (o : Option ℕ) → slice_get kept j ≡ Some o → f (slice_index is j) ≡ slice_index js j
  image_moves f old new j (Some i) e = ap f (p.old j i e) ∙ old (slice_index found i) (c.below i (c.within j i e)) ∙ sym (q.old j i e)
  image_moves f old new j None e = ap f (p.new j e) ∙ new (count_by is_none (take j kept)) (count_below kept j e) ∙ sym (q.new j e)

  -- s, t: what stands there after each; f: what of it is told by numbers that move
  module _ {X : Type 0} (s t : ℕ → Option X) (f : Option X → Option X) (none : f None ≡ None) (right : (j : ℕ) → j < length kept → t (slice_index js j) ≡ f (s (slice_index is j)))
      (gone : (n : ℕ) → (Contains is n → ⊥) → Contains found n → s n ≡ None) (gone_later : (n : ℕ) → (Contains js n → ⊥) → Contains found n → t n ≡ None) where
    pub at_found : (n : ℕ) → Contains found n → t n ≡ f (s n)
    at_found n i =
        let l = found_below c n i in
        let b : length is ≡ length kept = p.count in
        elim (contained is n) [
          | inl y ↦
              (let k : y.0 < length is = y.1 in
              let d : y.0 < length kept = omega arith in
              let o = element kept y.0 d in
              let e = standing is n y in
              ap t (sym (same_by y.0 n o.0 o.1 e l)) ∙ right y.0 d ∙ ap (λ z. f (s z)) e)
          | inr out ↦ gone_later n (λ y. out (was_image n l y)) i ∙ sym (ap f (gone n out i) ∙ none)
        ]

    pub at_new : (k : ℕ) → k < count_by is_none kept → t (later + k) ≡ f (s (next + k))
    at_new k l =
        let x = new_place kept k l in
        let e : slice_index is x.place ≡ next + k = p.new x.place x.new ∙ ap (λ z. next + z) x.before in
        let d : slice_index js x.place ≡ later + k = q.new x.place x.new ∙ ap (λ z. later + z) x.before in
        ap t (sym d) ∙ right x.place (slice_get_within kept x.place None x.new) ∙ ap (λ z. f (s z)) e

-- ---- both halves

either : (f : ℕ → ℕ) (is js : List ℕ) (n : ℕ) → ((j : ℕ) → j < n → f (slice_index is j) ≡ slice_index js j) → (b : Bool) (j k : ℕ) → j < n → k < n → f (slice_index is (if b then j else k)) ≡ slice_index js (if b then j else k)
either f is js n h true j k l c = h j l
either f is js n h false j k l c = h k c

module _ {r s : Rule} {g h k h2 : Graph} {m n : Found} (wr : IsWellFormed r) (ws : IsWellFormed s) (whole : IsNumbered g) (i : Independent r s g m n) (t : Step r g m h) (u : Step s g n k) (v : Step s h n h2) where
  nodes_keep : Keeps (kept_nodes s) n.nodes g.next_node
  nodes_keep = keeps_nodes s g n u.0 whole u.1.is_match ws

  edges_keep : Keeps (kept_edges s) n.edges g.next_edge
  edges_keep = keeps_edges s g n u.0 whole u.1.is_match ws

  nodes_up : g.next_node ≤ h.next_node
  nodes_up = let a = t.2.next_node in omega arith

  edges_up : g.next_edge ≤ h.next_edge
  edges_up = let a = t.2.next_edge in omega arith

  right_nodes : (j : ℕ) → j < length (kept_nodes s) → node_at h2 (slice_index v.2.images j) ≡ node_at k (slice_index u.2.images j)
  right_nodes j l = let q = element s.right_nodes j (subst (λ z. j < z) (length-map s.right_nodes origin_of) l) in same_made wr ws whole i t u v j q.0 q.1

  -- an image of a left node, kept or not
  pub at_node : (c : ℕ) → Contains n.nodes c → node_at h2 c ≡ node_at k c
  at_node = at_found nodes_keep nodes_up u.2.places v.2.places (node_at k) (node_at h2) (λ o. o) refl right_nodes u.2.deleted_nodes v.2.deleted_nodes

  pub at_new_node : (p : ℕ) → p < count_by is_none (kept_nodes s) → node_at h2 (h.next_node + p) ≡ node_at k (g.next_node + p)
  at_new_node = at_new nodes_keep nodes_up u.2.places v.2.places (node_at k) (node_at h2) (λ o. o) refl right_nodes u.2.deleted_nodes v.2.deleted_nodes

  module _ (f : ℕ → ℕ) (old : (c : ℕ) → c < g.next_node → f c ≡ c) (new : (p : ℕ) → p < count_by is_none (kept_nodes s) → f (g.next_node + p) ≡ h.next_node + p) where
    end_moves : (j : ℕ) → j < length s.right_nodes → f (slice_index u.2.images j) ≡ slice_index v.2.images j
    end_moves j l =
        let o = element (kept_nodes s) j (subst (λ z. j < z) (sym (length-map s.right_nodes origin_of)) l) in
        image_moves nodes_keep nodes_up u.2.places v.2.places f old new j o.0 o.1

    -- what a right edge makes of its image, new or kept
    right_edge : (p : ℕ) (q : RightEdge) → slice_get s.right_edges p ≡ Some q → edge_at h2 (slice_index v.2.edge_images p) ≡ option_map (moved f) (edge_at k (slice_index u.2.edge_images p))
    right_edge p q o =
        let x = u.2.right_edges p q o in
        let y = v.2.right_edges p q o in
        let z = edge_makes wr ws whole i t u.0 u.1.is_match p q v.2.images y.0 o (subst (λ a. MakesEdge s h n a v.2.images q y.0) (by_one wr ws whole i t u v) y.2) in
        let ends = ws.right_ends p q o in
        let e : y.0.source ≡ f x.0.source = z.source ∙ sym (either f u.2.images v.2.images (length s.right_nodes) end_moves (is_exchanged n q) q.target q.source ends.1 ends.0) ∙ ap f (sym x.2.source) in
        let d : y.0.target ≡ f x.0.target = z.target ∙ sym (either f u.2.images v.2.images (length s.right_nodes) end_moves (is_exchanged n q) q.source q.target ends.0 ends.1) ∙ ap f (sym x.2.target) in
        let a : y.0.label ≡ x.0.label = cc (z.label, x.2.label) in
        let b : y.0.mark ≡ x.0.mark = z.mark ∙ sym x.2.mark in
        let same : y.0 ≡ moved f x.0 = λ c. record { source = e c; target = d c; label = a c; mark = b c } in
        y.1 ∙ ap (λ w. Some w) same ∙ sym (ap (option_map (moved f)) x.1)

    right_edges : (j : ℕ) → j < length (kept_edges s) → edge_at h2 (slice_index v.2.edge_images j) ≡ option_map (moved f) (edge_at k (slice_index u.2.edge_images j))
    right_edges j l = let q = element s.right_edges j (subst (λ z. j < z) (length-map s.right_edges (kept_edge s)) l) in right_edge j q.0 q.1

    -- an image of a left edge, kept or not
    pub at_edge : (e : ℕ) → Contains n.edges e → edge_at h2 e ≡ option_map (moved f) (edge_at k e)
    at_edge = at_found edges_keep edges_up u.2.edge_places v.2.edge_places (edge_at k) (edge_at h2) (option_map (moved f)) refl right_edges u.2.deleted_edges v.2.deleted_edges

    pub at_new_edge : (p : ℕ) → p < count_by is_none (kept_edges s) → edge_at h2 (h.next_edge + p) ≡ option_map (moved f) (edge_at k (g.next_edge + p))
    at_new_edge = at_new edges_keep edges_up u.2.edge_places v.2.edge_places (edge_at k) (edge_at h2) (option_map (moved f)) refl right_edges u.2.deleted_edges v.2.deleted_edges

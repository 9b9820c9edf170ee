-- What a step leaves at a node that it does not touch.
use Rattle.std.proofs.Common.{inl, inr, ◌≡◌, ℕ, ◌<◌, ◌==◌, Bool, true, false, if◌then◌else◌, List, length, refl, sym, ap, subst, ◌∙◌, arith}
use Rattle.std.specs.Prelude.{◌↔◌, ◌&&◌, Some, IsSomeAnd, Contains, slice_index}
use Rattle.std.specs.List.{list_any}
use Rattle.std.specs.FinMap.{entries}
use Rattle.std.proofs.lemmas.Bool.{and_parts, eqb-true}
use Rattle.std.proofs.lemmas.Bool.Decides.{Decides-eqb, same_from_decides}
use Rattle.std.proofs.lemmas.List.{length-map}
use Rattle.gp_memory.proofs.Basics.{is_some_of as is_some, some_at as element, some_same, standing, stands_in}
use Rattle.gp_values.specs.declared.atom.Atom.{Atom}
use Rattle.gp_values.specs.declared.marks.EdgeMark.{EdgeMark}
use Rattle.gp_values.specs.Atoms.{same_list}
use Rattle.gp_values.specs.Graph.{Graph, Edge, node_at, edge_at, in_degree, out_degree}
use Rattle.gp_graph.specs.Walks.{Walks, BeginsAt, EndsAt}
use Rattle.gp_graph.proofs.Numbers.{Walks-same}
use Rattle.gp_graph.proofs.Degrees.{chosen, Walks-chosen, says, in_degree-walk, out_degree-walk}
use Rattle.gp_syntax.specs.Expression.{MarkPattern}
use Rattle.gp_syntax.specs.Truth.{has_mark}
use Rattle.gp_syntax.specs.Rule.{Rule, Found, kept_edge}
use Rattle.gp_syntax.specs.Step.{MakesEdge, is_exchanged, Step}
use Rattle.gp_syntax.specs.WellFormed.{IsWellFormed}
use Rattle.gp_step.specs.Edits.{origin_of}
use Rattle.gp_step.specs.Laws.{IsNumbered}
use Rattle.gp_step.proofs.Halves.{stood}
use Rattle.gp_eval.proofs.Between.{at_any, any_at}
use Rattle.gp_independence.proofs.Frames.{some_at, at_some, frame}
use Rattle.gp_touch.specs.Touch.{IsTouched, IsAt, AreSameAt, UntouchedStay}

-- ---- two graphs with the same edges at a node

pub ends : (a b : ℕ) (d : Edge) → (d.source == a && d.target == b) ≡ true → (d.source ≡ a) × (d.target ≡ b)
ends a b d e = let p = and_parts (d.source == a) (d.target == b) e in (eqb-true d.source a p.0, eqb-true d.target b p.1)

pub ends_with : (a b : ℕ) (v : List Atom) (mark : MarkPattern EdgeMark) (d : Edge) → ((d.source == a && d.target == b) && (same_list d.label v && has_mark mark d.mark)) ≡ true → (d.source ≡ a) × (d.target ≡ b)
ends_with a b v mark d e = ends a b d (and_parts (d.source == a && d.target == b) (same_list d.label v && has_mark mark d.mark) e).0

-- whether some edge passes a test, of those that are in both graphs or in neither
pub any_same : (g h : Graph) (test : Edge → Bool) → ((e : ℕ) (d : Edge) → test d ≡ true → (edge_at g e ≡ Some d) ↔ (edge_at h e ≡ Some d)) → list_any (λ (e : ℕ × Edge). test e.1) (entries h.edges) ≡ list_any (λ (e : ℕ × Edge). test e.1) (entries g.edges)
any_same g h test both =
    same_from_decides {P = list_any (λ (e : ℕ × Edge). test e.1) (entries g.edges) ≡ true} (list_any (λ (e : ℕ × Edge). test e.1) (entries h.edges)) (list_any (λ (e : ℕ × Edge). test e.1) (entries g.edges)) (
      λ e. let k = any_at test h.edges e in let x = some_at (λ d. test d ≡ true) (edge_at h k.0) k.1 in at_any test g.edges k.0 (at_some (λ d. test d ≡ true) (edge_at g k.0) x.0 ((both k.0 x.0 x.2).1 x.1) x.2),
      λ e. let k = any_at test g.edges e in let x = some_at (λ d. test d ≡ true) (edge_at g k.0) k.1 in at_any test h.edges k.0 (at_some (λ d. test d ≡ true) (edge_at h k.0) x.0 ((both k.0 x.0 x.2).0 x.1) x.2),
    )
    (λ e. e, λ e. e)

-- the same edges end, or begin, at a node: as many
module _ (g h : Graph) (n : ℕ) where
  abbrev ending : List ℕ
  ending = chosen (λ (d : Edge). d.target == n) (entries g.edges)

  abbrev beginning : List ℕ
  beginning = chosen (λ (d : Edge). d.source == n) (entries g.edges)

  Walks-ending : Walks ending (EndsAt g n)
  Walks-ending = Walks-same _ (λ k. IsSomeAnd (edge_at g k) (λ d. (d.target == n) ≡ true)) (EndsAt g n) (λ k. says (λ (d : Edge). d.target == n) (λ d. d.target ≡ n) (λ d. Decides-eqb d.target n) (edge_at g k)) (Walks-chosen (λ (d : Edge). d.target == n) g.edges)

  Walks-beginning : Walks beginning (BeginsAt g n)
  Walks-beginning = Walks-same _ (λ k. IsSomeAnd (edge_at g k) (λ d. (d.source == n) ≡ true)) (BeginsAt g n) (λ k. says (λ (d : Edge). d.source == n) (λ d. d.source ≡ n) (λ d. Decides-eqb d.source n) (edge_at g k)) (Walks-chosen (λ (d : Edge). d.source == n) g.edges)

  pub in_same : ((e : ℕ) → EndsAt g n e ↔ EndsAt h n e) → in_degree h n ≡ in_degree g n
  in_same same = sym (in_degree-walk h n ending (Walks-same ending (EndsAt g n) (EndsAt h n) same Walks-ending)) ∙ in_degree-walk g n ending Walks-ending

  pub out_same : ((e : ℕ) → BeginsAt g n e ↔ BeginsAt h n e) → out_degree h n ≡ out_degree g n
  out_same same = sym (out_degree-walk h n beginning (Walks-same beginning (BeginsAt g n) (BeginsAt h n) same Walks-beginning)) ∙ out_degree-walk g n beginning Walks-beginning

module _ (g h : Graph) (n : ℕ) (edges : (e : ℕ) (d : Edge) → IsAt d n → (edge_at g e ≡ Some d) ↔ (edge_at h e ≡ Some d)) where
  pub same_edges : (P : Edge → Type 0) → ((d : Edge) → P d → IsAt d n) → (e : ℕ) → IsSomeAnd (edge_at g e) P ↔ IsSomeAnd (edge_at h e) P
  same_edges P is_at e = (
    λ k. let x = some_at P (edge_at g e) k in at_some P (edge_at h e) x.0 ((edges e x.0 (is_at x.0 x.2)).0 x.1) x.2,
    λ k. let x = some_at P (edge_at h e) k in at_some P (edge_at g e) x.0 ((edges e x.0 (is_at x.0 x.2)).1 x.1) x.2,
  )

  pub same_at : node_at h n ≡ node_at g n → AreSameAt g h n
  same_at node = record {
    node = node;
    edges = edges;
    into = in_same g h n (same_edges (λ d. d.target ≡ n) (λ d e. inr e));
    out_of = out_same g h n (same_edges (λ d. d.source ≡ n) (λ d e. inl e));
    edge_from = λ k. any_same g h (λ (d : Edge). d.source == n && d.target == k) (λ e d t. edges e d (inl (ends n k d t).0));
    edge_to = λ k. any_same g h (λ (d : Edge). d.source == k && d.target == n) (λ e d t. edges e d (inr (ends k n d t).1));
    edge_from_with = λ k v mark. any_same g h (λ (d : Edge). (d.source == n && d.target == k) && (same_list d.label v && has_mark mark d.mark)) (λ e d t. edges e d (inl (ends_with n k v mark d t).0));
    edge_to_with = λ k v mark. any_same g h (λ (d : Edge). (d.source == k && d.target == n) && (same_list d.label v && has_mark mark d.mark)) (λ e d t. edges e d (inr (ends_with k n v mark d t).1));
  }

-- ---- a graph and itself, the other way, and by a third

pub same_self : (g : Graph) (n : ℕ) → AreSameAt g g n
same_self g n = same_at g g n (λ e d at. (λ x. x, λ x. x)) refl

pub same_back : {g h : Graph} {n : ℕ} → AreSameAt g h n → AreSameAt h g n
same_back {g = g} {h = h} {n = n} s = same_at h g n (λ e d at. let x = s.edges e d at in (x.1, x.0)) (sym s.node)

pub same_on : {g h k : Graph} {n : ℕ} → AreSameAt g h n → AreSameAt h k n → AreSameAt g k n
same_on {g = g} {k = k} {n = n} s t = same_at g k n (λ e d at. let x = s.edges e d at in let y = t.edges e d at in (λ z. y.0 (x.0 z), λ z. x.1 (y.1 z))) (t.node ∙ s.node)

-- ---- a step

either_place : (ns : List ℕ) (b : Bool) (j k : ℕ) → j < length ns → k < length ns → Contains ns (slice_index ns (if b then j else k))
either_place ns true j k l n = stands_in ns j (slice_index ns j) l refl
either_place ns false j k l n = stands_in ns k (slice_index ns k) n refl

-- an edge between two of them is at one of them
one_end : (ns : List ℕ) (d : Edge) (n : ℕ) → IsAt d n → Contains ns d.source × Contains ns d.target → Contains ns n
one_end ns d n at c = elim at [ inl x ↦ subst (Contains ns) x c.0 | inr x ↦ subst (Contains ns) x c.1 ]

module _ {r : Rule} {g h : Graph} {m : Found} (o : IsWellFormed r) (whole : IsNumbered g) (t : Step r g m h) where
  -- an edge that is made, or kept, goes between images of right nodes
  made : (e : ℕ) (d : Edge) → Contains t.2.edge_images e → edge_at h e ≡ Some d → Contains t.2.images d.source × Contains t.2.images d.target
  made e d c there =
      let l : c.0 < length t.2.edge_images = c.1 in
      let k : length t.2.edge_images ≡ length r.right_edges = t.2.edge_places.count ∙ length-map r.right_edges (kept_edge r) in
      let b : length t.2.images ≡ length r.right_nodes = t.2.places.count ∙ length-map r.right_nodes origin_of in
      let q = element r.right_edges c.0 (omega arith) in
      let x = t.2.right_edges c.0 q.0 q.1 in
      let same : x.0 ≡ d = some_same (sym x.1 ∙ ap (edge_at h) (standing t.2.edge_images e c) ∙ there) in
      let f : MakesEdge r g m t.0 t.2.images q.0 d = subst (MakesEdge r g m t.0 t.2.images q.0) same x.2 in
      let ends = o.right_ends c.0 q.0 q.1 in
      let bs : q.0.source < length t.2.images = subst (λ z. q.0.source < z) (sym b) ends.0 in
      let bt : q.0.target < length t.2.images = subst (λ z. q.0.target < z) (sym b) ends.1 in (
        subst (Contains t.2.images) (sym f.source) (either_place t.2.images (is_exchanged m q.0) q.0.target q.0.source bt bs),
        subst (Contains t.2.images) (sym f.target) (either_place t.2.images (is_exchanged m q.0) q.0.source q.0.target bs bt),
      )

  module _ (n : ℕ) (out : IsTouched r g m h t n → ⊥) where
    still : (e : ℕ) (d : Edge) → IsAt d n → edge_at g e ≡ Some d → edge_at h e ≡ Some d
    still e d at s =
        let f = frame o whole t.1.is_match t.2 in
        f.edges e (whole.edges_below e (is_some (edge_at g e) d s)) (λ c. out (inl (one_end m.nodes d n at (f.before e d c s)))) ∙ s

    was : (e : ℕ) (d : Edge) → IsAt d n → edge_at h e ≡ Some d → edge_at g e ≡ Some d
    was e d at s =
        elim (stood t.2.edge_images m.edges g.edges h.edges t.2.deleted_edges t.2.other_edges e d s) [
          | inl c ↦ absurd (out (inr (one_end t.2.images d n at (made e d c s))))
          | inr k ↦ k.2
        ]

    pub step_stays : AreSameAt g h n
    step_stays = same_at g h n (λ e d at. (still e d at, was e d at)) (t.2.other_nodes n (λ c. out (inr c)) (λ c. out (inl c)))

pub untouched_stays : UntouchedStay
untouched_stays r g h m o whole t n out = step_stays o whole t n out

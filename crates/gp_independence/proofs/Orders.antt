-- The two orders of two independent matches lead to one graph, but for the numbers of what is new.
use Rattle.std.proofs.Common.{◌≡◌, ℕ, ◌+◌, ◌<◌, ◌≤◌, count_by, Option, Some, None, is_none, Contains, refl, sym, ap, subst, ◌∙◌, arith}
use Rattle.std.specs.Option.{option_map}
use Rattle.std.proofs.Math.Bool.{or_comm}
use Rattle.gp_memory.proofs.Basics.{not_there, standing}
use Rattle.gp_values.specs.Graph.{Graph, Edge, IsGraph, node_at, edge_at}
use Rattle.gp_syntax.specs.Rule.{Rule, Found, kept_nodes, kept_edges}
use Rattle.gp_syntax.specs.Step.{Step}
use Rattle.gp_syntax.specs.WellFormed.{IsWellFormed}
use Rattle.gp_step.specs.Laws.{IsNumbered}
use Rattle.gp_step.proofs.Afters.{numbered}
use Rattle.gp_step.proofs.Wholes.{numbered_step}
use Rattle.gp_independence.specs.Independent.{looks_around, Independent}
use Rattle.gp_independence.specs.Laws.{moved, AreSameOver, Commute}
use Rattle.gp_independence.proofs.Frames.{found_below, Frame, frame, nodes_kept, edges_kept}
use Rattle.gp_independence.proofs.Second.{applies_stays}
use Rattle.gp_independence.proofs.Kept.{preserves_stays}
use Rattle.gp_independence.proofs.Exchange.{exchanged, exchanged_old, exchanged_first, exchanged_past, exchanged_back, TwoOrders, one_half}
use Rattle.gp_independence.proofs.Halves.{at_node, at_new_node, at_edge, at_new_edge}

pub other_way : {r s : Rule} {g : Graph} {m n : Found} → Independent r s g m n → Independent s r g n m
other_way {r = r} {s = s} i = record {
  first = i.second;
  second = i.first;
  edges = λ e a b. i.edges e b a;
  nodes = λ j k a b e. let p = i.nodes k j b a (sym e) in (p.1, p.0);
  apart = λ e c a b. i.apart (or_comm (looks_around r) (looks_around s) ∙ e) c b a;
}

-- ---- edges whose ends are renamed

moved_there : (f : ℕ → ℕ) (o : Option Edge) → ((d : Edge) → o ≡ Some d → (f d.source ≡ d.source) × (f d.target ≡ d.target)) → option_map (moved f) o ≡ o
moved_there f None h = refl
moved_there f (Some d) h = let e = h d refl in λ i. Some (record d { source = e.0 i; target = e.1 i })

moved_back : (f b : ℕ → ℕ) → ((n : ℕ) → f (b n) ≡ n) → (o : Option Edge) → option_map (moved f) (option_map (moved b) o) ≡ o
moved_back f b h None = refl
moved_back f b h (Some d) = λ i. Some (record d { source = h d.source i; target = h d.target i })

-- ---- numbers past the used ones

node_past : {g : Graph} → IsNumbered g → (n : ℕ) → g.next_node ≤ n → node_at g n ≡ None
node_past {g = g} w n l = not_there (node_at g n) (λ s. let b = w.nodes_below n s in omega arith)

edge_past : {g : Graph} → IsNumbered g → (e : ℕ) → g.next_edge ≤ e → edge_at g e ≡ None
edge_past {g = g} w e l = not_there (edge_at g e) (λ s. let b = w.edges_below e s in omega arith)

-- ---- both orders

module _ {r s : Rule} {g h k h2 k2 : Graph} {m n : Found} (wr : IsWellFormed r) (ws : IsWellFormed s) (graph : IsGraph g) (i : Independent r s g m n) (t : Step r g m h) (u : Step s g n k) (t2 : Step s h n h2) (u2 : Step r k m k2) where
  abbrev whole : IsNumbered g
  whole = numbered g graph

  abbrev j : Independent s r g n m
  j = other_way i

  -- how many nodes and edges each makes
  abbrev A : ℕ
  A = count_by is_none (kept_nodes r)

  abbrev B : ℕ
  B = count_by is_none (kept_nodes s)

  abbrev C : ℕ
  C = count_by is_none (kept_edges r)

  abbrev D : ℕ
  D = count_by is_none (kept_edges s)

  abbrev to_node : ℕ → ℕ
  to_node = exchanged g.next_node A B

  abbrev from_node : ℕ → ℕ
  from_node = exchanged g.next_node B A

  whole_h : IsNumbered h
  whole_h = numbered_step wr whole t.1.is_match t.2

  whole_k : IsNumbered k
  whole_k = numbered_step ws whole u.1.is_match u.2

  whole_h2 : IsNumbered h2
  whole_h2 = numbered_step ws whole_h t2.1.is_match t2.2

  whole_k2 : IsNumbered k2
  whole_k2 = numbered_step wr whole_k u2.1.is_match u2.2

  at_h : Frame g h m.nodes m.edges
  at_h = frame wr whole t.1.is_match t.2

  at_k : Frame g k n.nodes n.edges
  at_k = frame ws whole u.1.is_match u.2

  at_h2 : Frame h h2 n.nodes n.edges
  at_h2 = frame ws whole_h t2.1.is_match t2.2

  at_k2 : Frame k k2 m.nodes m.edges
  at_k2 = frame wr whole_k u2.1.is_match u2.2

  -- what both preserve stays as it was
  shared : (c : ℕ) → Contains m.nodes c → Contains n.nodes c → node_at k2 c ≡ node_at h2 c
  shared c a b =
      let x = standing m.nodes c a in
      let y = standing n.nodes c b in
      let p = i.nodes a.0 b.0 a.1 b.1 (x ∙ sym y) in
      let k_k2 : node_at k2 c ≡ node_at k c = subst (λ z. node_at k2 z ≡ node_at k z) x ((preserves_stays ws wr whole j u a.0 a.1 p.0).carries k2 u2) in
      let h_h2 : node_at h2 c ≡ node_at h c = subst (λ z. node_at h2 z ≡ node_at h z) y ((preserves_stays wr ws whole i t b.0 b.1 p.1).carries h2 t2) in
      let g_k : node_at k c ≡ node_at g c = subst (λ z. node_at k z ≡ node_at g z) y (p.1.carries k u) in
      let g_h : node_at h c ≡ node_at g c = subst (λ z. node_at h z ≡ node_at g z) x (p.0.carries h t) in
      k_k2 ∙ g_k ∙ sym g_h ∙ sym h_h2

  nodes : TwoOrders g.next_node A B m.nodes n.nodes (node_at g) (node_at h) (node_at k) (node_at h2) (node_at k2) (λ o. o) (λ o. o)
  nodes =
      let a = t.2.next_node in
      let b = u.2.next_node in
      let c = t2.2.next_node in
      let d = u2.2.next_node in
      record {
        m_below = found_below (nodes_kept wr whole t.1.is_match t.2);
        n_below = found_below (nodes_kept ws whole u.1.is_match u.2);
        h_other = at_h.nodes;
        k_other = at_k.nodes;
        h2_other = λ z l. at_h2.nodes z (omega arith);
        k2_other = λ z l. at_k2.nodes z (omega arith);
        m_found = at_node ws wr whole j u t u2;
        n_found = at_node wr ws whole i t u t2;
        m_new = λ p l. ap (λ z. node_at k2 (z + p)) (sym b) ∙ at_new_node ws wr whole j u t u2 p l;
        n_new = λ p l. ap (λ z. node_at h2 (z + p)) (sym a) ∙ at_new_node wr ws whole i t u t2 p l;
        shared = shared;
        h2_past = λ z l. node_past whole_h2 z (omega arith);
        k2_past = λ z l. node_past whole_k2 z (omega arith);
        stays = λ z. refl;
        again = λ o. refl;
        none = refl;
      }

  ends_stay : (e : ℕ) (d : Edge) → edge_at g e ≡ Some d → (to_node d.source ≡ d.source) × (to_node d.target ≡ d.target)
  ends_stay e d x = (exchanged_old g.next_node A B d.source (graph.nodes_below d.source (graph.sources e d x)), exchanged_old g.next_node A B d.target (graph.nodes_below d.target (graph.targets e d x)))

  r_moves : (p : ℕ) → p < A → to_node (g.next_node + p) ≡ k.next_node + p
  r_moves p l = exchanged_first g.next_node A B (g.next_node + p) p refl l ∙ ap (λ z. z + p) (sym u.2.next_node)

  s_moves : (p : ℕ) → p < B → from_node (g.next_node + p) ≡ h.next_node + p
  s_moves p l = exchanged_first g.next_node B A (g.next_node + p) p refl l ∙ ap (λ z. z + p) (sym t.2.next_node)

  edges : TwoOrders g.next_edge C D m.edges n.edges (edge_at g) (edge_at h) (edge_at k) (edge_at h2) (edge_at k2) (option_map (moved to_node)) (option_map (moved from_node))
  edges =
      let a = t.2.next_edge in
      let b = u.2.next_edge in
      let c = t2.2.next_edge in
      let d = u2.2.next_edge in
      record {
        m_below = found_below (edges_kept wr whole t.1.is_match t.2);
        n_below = found_below (edges_kept ws whole u.1.is_match u.2);
        h_other = at_h.edges;
        k_other = at_k.edges;
        h2_other = λ z l. at_h2.edges z (omega arith);
        k2_other = λ z l. at_k2.edges z (omega arith);
        m_found = at_edge ws wr whole j u t u2 to_node (exchanged_old g.next_node A B) r_moves;
        n_found = at_edge wr ws whole i t u t2 from_node (exchanged_old g.next_node B A) s_moves;
        m_new = λ p l. ap (λ z. edge_at k2 (z + p)) (sym b) ∙ at_new_edge ws wr whole j u t u2 to_node (exchanged_old g.next_node A B) r_moves p l;
        n_new = λ p l. ap (λ z. edge_at h2 (z + p)) (sym a) ∙ at_new_edge wr ws whole i t u t2 from_node (exchanged_old g.next_node B A) s_moves p l;
        shared = λ e x y. absurd (i.edges e x y);
        h2_past = λ z l. edge_past whole_h2 z (omega arith);
        k2_past = λ z l. edge_past whole_k2 z (omega arith);
        stays = λ e. moved_there to_node (edge_at g e) (ends_stay e);
        again = moved_back to_node from_node (exchanged_back g.next_node B A);
        none = refl;
      }

  pub are_same : AreSameOver g h2 k2
  are_same = record {
    nodes = record { to = to_node; back = from_node; to_back = exchanged_back g.next_node B A; back_to = exchanged_back g.next_node A B; old = exchanged_old g.next_node A B; free = λ n l. exchanged_past g.next_node A B n (let a = t.2.next_node in let c = t2.2.next_node in omega arith) };
    edges = record { to = exchanged g.next_edge C D; back = exchanged g.next_edge D C; to_back = exchanged_back g.next_edge D C; back_to = exchanged_back g.next_edge C D; old = exchanged_old g.next_edge C D; free = λ n l. exchanged_past g.next_edge C D n (let a = t.2.next_edge in let c = t2.2.next_edge in omega arith) };
    node = one_half nodes;
    edge = one_half edges;
    next_node = (let a = t.2.next_node in let b = u.2.next_node in let c = t2.2.next_node in let d = u2.2.next_node in omega arith);
    next_edge = (let a = t.2.next_edge in let b = u.2.next_edge in let c = t2.2.next_edge in let d = u2.2.next_edge in omega arith);
  }

pub steps_commute : (r s : Rule) (g : Graph) (m n : Found) → IsWellFormed r → IsWellFormed s → IsGraph g → Independent r s g m n → Commute r s g m n
steps_commute r s g m n wr ws graph i = record {
  n_after_m = λ h t. applies_stays wr ws (numbered g graph) i t i.second;
  m_after_n = λ k u. applies_stays ws wr (numbered g graph) (other_way i) u i.first;
  one_graph = λ h k h2 k2 t t2 u u2. are_same wr ws graph i t u t2 u2;
}

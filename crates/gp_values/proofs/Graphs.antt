-- Each edit of a graph changes one place, and leaves a graph.
use Rattle.std.proofs.Common.{inl, inr, ◌≡◌, ℕ, ◌<◌, ◌≢◌, refl, sym, subst, ◌∙◌, arith}
use Rattle.std.specs.Prelude.{◌⊎◌, List, Option, Some, None, IsSome}
use Rattle.std.specs.Option.{option_map_or}
use Rattle.std.specs.Ordering.{nat_cmp}
use Rattle.std.specs.Cmp.{nat_cmp_total, unsigned_tied}
use Rattle.std.specs.FinMap.{FinMap, get, insert, remove, gets, get-empty, same_map, nat_cmp-IsAntisymmetric}
use Rattle.std.proofs.lemmas.Bool.{cases_eq}
use Rattle.std.proofs.lemmas.Grind.{common_steps}
use Rattle.std.proofs.lemmas.Option.{none-some}
use Rattle.gp_memory.proofs.Basics.{is_some_of as some_of, some_is as same_some}
use Rattle.gp_values.specs.declared.atom.Atom.{Atom}
use Rattle.gp_values.specs.declared.marks.EdgeMark.{EdgeMark}
use Rattle.gp_values.specs.Atoms.{AreAtoms}
use Rattle.gp_values.specs.Graph.{Node, Edge, Graph, IsGraph, HasNoEdges, empty_graph, with_node, with_edge, without_node, without_edge, relabeled, relabeled_edge, with_edge_at, node_at, edge_at}

-- what a map has after a change at one key
pub get-insert_here : {X : Type 0} (m : FinMap nat_cmp X) (k : ℕ) (v : X) → get (insert m k v) k ≡ Some v
get-insert_here m k v = grind (gets, arith, common_steps, unsigned_tied k k)

pub get-insert_apart : {X : Type 0} (m : FinMap nat_cmp X) (k q : ℕ) (v : X) → q ≢ k → get (insert m k v) q ≡ get m q
get-insert_apart m k q v h = grind (gets, arith, common_steps, unsigned_tied q k)

pub get-remove_here : {X : Type 0} (m : FinMap nat_cmp X) (k : ℕ) → get (remove m k) k ≡ None
get-remove_here m k = grind (gets, arith, common_steps, unsigned_tied k k)

pub get-remove_apart : {X : Type 0} (m : FinMap nat_cmp X) (k q : ℕ) → q ≢ k → get (remove m k) q ≡ get m q
get-remove_apart m k q h = grind (gets, arith, common_steps, unsigned_tied q k)

-- a key is the one changed, or what it had stays
pub get-insert_cases : {X : Type 0} (m : FinMap nat_cmp X) (k q : ℕ) (v : X) → ((q ≡ k) × (get (insert m k v) q ≡ Some v)) ⊎ ((q ≢ k) × (get (insert m k v) q ≡ get m q))
get-insert_cases m k q v = grind (gets, arith, common_steps, unsigned_tied q k)

-- where there is an entry before, there is one after, and nothing else is new
pub IsSome-insert : {X : Type 0} (m : FinMap nat_cmp X) (k q : ℕ) (v : X) → IsSome (get m q) → IsSome (get (insert m k v) q)
IsSome-insert m k q v h =
    elim (get-insert_cases m k q v) [
      | inl p ↦ subst IsSome (sym p.1) refl
      | inr p ↦ subst IsSome (sym p.1) h
    ]

pub IsSome-inserted : {X : Type 0} (m : FinMap nat_cmp X) (k q : ℕ) (v : X) → IsSome (get (insert m k v) q) → (q ≡ k) ⊎ IsSome (get m q)
IsSome-inserted m k q v h =
    elim (get-insert_cases m k q v) [
      | inl p ↦ inl p.0
      | inr p ↦ inr (subst IsSome p.1 h)
    ]

pub get-removed : {X : Type 0} (m : FinMap nat_cmp X) (k q : ℕ) (v : X) → get (remove m k) q ≡ Some v → get m q ≡ Some v
get-removed m k q v h =
    elim (cases_eq q k) [
      | inl e ↦ absurd (none-some v (sym (get-remove_here m k) ∙ subst (λ j. get (remove m k) j ≡ Some v) e h))
      | inr d ↦ sym (get-remove_apart m k q d) ∙ h
    ]

pub IsSome-removed : {X : Type 0} (m : FinMap nat_cmp X) (k q : ℕ) → IsSome (get (remove m k) q) → IsSome (get m q)
IsSome-removed m k q h = grind (gets, arith, common_steps, unsigned_tied q k)

-- a fact of what a map has at each key, after one key was given something of which it holds
pub each-insert : {X : Type 0} (P : X → Type 0) (m : FinMap nat_cmp X) (k : ℕ) (v : X) → P v → ((q : ℕ) (x : X) → get m q ≡ Some x → P x) → (q : ℕ) (x : X) → get (insert m k v) q ≡ Some x → P x
each-insert P m k v here rest q x h =
    elim (get-insert_cases m k q v) [
      | inl p ↦ subst P (same_some v x (sym p.1 ∙ h)) here
      | inr p ↦ rest q x (sym p.1 ∙ h)
    ]

pub IsGraph-empty : IsGraph empty_graph
IsGraph-empty = record {
  nodes_below = λ n h. let e = rw get-empty at h in cc;
  edges_below = λ n h. let e = rw get-empty at h in cc;
  sources = λ e d h. let k = rw get-empty at h in cc;
  targets = λ e d h. let k = rw get-empty at h in cc;
  node_labels = λ n x h. let k = rw get-empty at h in absurd cc;
  edge_labels = λ n x h. let k = rw get-empty at h in absurd cc;
}

pub IsGraph-with_node : (g : Graph) (x : Node) → IsGraph g → AreAtoms x.label → IsGraph (with_node g x)
IsGraph-with_node g x w v = record {
  nodes_below = λ n h. elim (IsSome-inserted g.nodes g.next_node n x h) [ inl e ↦ omega arith | inr s ↦ (let b : n < g.next_node = w.nodes_below n s in omega arith) ];
  edges_below = w.edges_below;
  sources = λ e d h. IsSome-insert g.nodes g.next_node d.source x (w.sources e d h);
  targets = λ e d h. IsSome-insert g.nodes g.next_node d.target x (w.targets e d h);
  node_labels = each-insert (λ (y : Node). AreAtoms y.label) g.nodes g.next_node x v w.node_labels;
  edge_labels = w.edge_labels;
}

pub IsGraph-with_edge : (g : Graph) (d : Edge) → IsGraph g → IsSome (node_at g d.source) → IsSome (node_at g d.target) → AreAtoms d.label → IsGraph (with_edge g d)
IsGraph-with_edge g d w s t v = record {
  nodes_below = w.nodes_below;
  edges_below = λ n h. elim (IsSome-inserted g.edges g.next_edge n d h) [ inl e ↦ omega arith | inr s ↦ (let b : n < g.next_edge = w.edges_below n s in omega arith) ];
  sources = each-insert (λ (z : Edge). IsSome (node_at g z.source)) g.edges g.next_edge d s w.sources;
  targets = each-insert (λ (z : Edge). IsSome (node_at g z.target)) g.edges g.next_edge d t w.targets;
  node_labels = w.node_labels;
  edge_labels = each-insert (λ (z : Edge). AreAtoms z.label) g.edges g.next_edge d v w.edge_labels;
}

-- an end of an edge is still there when another node is gone
still_there : (g : Graph) (n q : ℕ) → q ≢ n → IsSome (node_at g q) → IsSome (node_at (without_node g n) q)
still_there g n q h s = rw (get-remove_apart g.nodes n q h) s

pub IsGraph-without_node : (g : Graph) (n : ℕ) → IsGraph g → HasNoEdges g n → IsGraph (without_node g n)
IsGraph-without_node g n w none = record {
  nodes_below = λ q h. w.nodes_below q (IsSome-removed g.nodes n q h);
  edges_below = w.edges_below;
  sources = λ e d h. still_there g n d.source (none e d h).0 (w.sources e d h);
  targets = λ e d h. still_there g n d.target (none e d h).1 (w.targets e d h);
  node_labels = λ q x h. w.node_labels q x (get-removed g.nodes n q x h);
  edge_labels = w.edge_labels;
}

pub IsGraph-without_edge : (g : Graph) (e : ℕ) → IsGraph g → IsGraph (without_edge g e)
IsGraph-without_edge g k w = record {
  nodes_below = w.nodes_below;
  edges_below = λ n h. w.edges_below n (IsSome-removed g.edges k n h);
  sources = λ e c h. w.sources e c (get-removed g.edges k e c h);
  targets = λ e c h. w.targets e c (get-removed g.edges k e c h);
  node_labels = w.node_labels;
  edge_labels = λ e c h. w.edge_labels e c (get-removed g.edges k e c h);
}

pub IsGraph-relabeled : (g : Graph) (n : ℕ) (x : Node) → IsGraph g → IsSome (node_at g n) → AreAtoms x.label → IsGraph (relabeled g n x)
IsGraph-relabeled g k x w s v = record {
  nodes_below = λ n h. elim (IsSome-inserted g.nodes k n x h) [ inl e ↦ rw e (w.nodes_below k s) | inr s ↦ w.nodes_below n s ];
  edges_below = w.edges_below;
  sources = λ e d h. IsSome-insert g.nodes k d.source x (w.sources e d h);
  targets = λ e d h. IsSome-insert g.nodes k d.target x (w.targets e d h);
  node_labels = each-insert (λ (y : Node). AreAtoms y.label) g.nodes k x v w.node_labels;
  edge_labels = w.edge_labels;
}

relabeled_edge-at : (g : Graph) (k : ℕ) (l : List Atom) (m : EdgeMark) (o : Option Edge) → edge_at g k ≡ o → IsGraph g → AreAtoms l
    → IsGraph (option_map_or (λ (d : Edge). with_edge_at g k (record d { label = l; mark = m })) o g)
relabeled_edge-at g k l m None is w v = w
relabeled_edge-at g k l m (Some d) is w v =
    let x : Edge = record d { label = l; mark = m } in
    record {
      nodes_below = w.nodes_below;
      edges_below = λ n h. elim (IsSome-inserted g.edges k n x h) [ inl e ↦ rw e (w.edges_below k (some_of (edge_at g k) d is)) | inr s ↦ w.edges_below n s ];
      sources = each-insert (λ (z : Edge). IsSome (node_at g z.source)) g.edges k x (w.sources k d is) w.sources;
      targets = each-insert (λ (z : Edge). IsSome (node_at g z.target)) g.edges k x (w.targets k d is) w.targets;
      node_labels = w.node_labels;
      edge_labels = each-insert (λ (z : Edge). AreAtoms z.label) g.edges k x v w.edge_labels;
    }

pub IsGraph-relabeled_edge : (g : Graph) (e : ℕ) (l : List Atom) (m : EdgeMark) → IsGraph g → AreAtoms l → IsGraph (relabeled_edge g e l m)
IsGraph-relabeled_edge g e l m w v = relabeled_edge-at g e l m (edge_at g e) refl w v

pub same_graph : (g h : Graph) → ((n : ℕ) → node_at g n ≡ node_at h n) → ((e : ℕ) → edge_at g e ≡ edge_at h e) → g.next_node ≡ h.next_node → g.next_edge ≡ h.next_edge → g ≡ h
same_graph g h a b c d =
    let n : g.nodes ≡ h.nodes = same_map nat_cmp_total nat_cmp-IsAntisymmetric g.nodes h.nodes a in
    let e : g.edges ≡ h.edges = same_map nat_cmp_total nat_cmp-IsAntisymmetric g.edges h.edges b in
    λ i. record { nodes = n i; edges = e i; next_node = c i; next_edge = d i }

-- Edits that take others back, and how many nodes each edit leaves.
use Rattle.std.proofs.Common.{inl, inr, ◌≡◌, ℕ, ◌+◌, ◌-◌, ◌<◌, ◌≤◌, ◌≢◌, ap, refl, ◌∙◌, arith, cond}
use Rattle.std.specs.Prelude.{Some, None, Option, IsSome, is_some}
use Rattle.std.specs.Ordering.{nat_cmp}
use Rattle.std.specs.Cmp.{nat_cmp_total, unsigned_tied}
use Rattle.std.specs.FinMap.{FinMap, get, insert, remove, len, gets, get-empty, len-insert, len-remove, empty_of_len, same_map, nat_cmp-IsAntisymmetric}
use Rattle.std.proofs.lemmas.Grind.{common_steps}
use Rattle.gp_memory.proofs.Basics.{less_one, not_there as vacant}
use Rattle.gp_values.specs.Atoms.{AreAtoms}
use Rattle.gp_values.specs.Graph.{Node, Edge, Graph, IsGraph, node_at, edge_at, node_count, with_node, with_edge, without_node, without_edge, relabeled, with_node_at, with_edge_at, without_node_number, without_edge_number}
use Rattle.gp_values.proofs.Graphs.{IsSome-insert, IsSome-inserted, each-insert}

-- ---- maps

put_back : {X : Type 0} (m : FinMap nat_cmp X) (k : ℕ) (v : X) (q : ℕ) → get m k ≡ Some v → get (insert (remove m k) k v) q ≡ get m q
put_back m k v q h = grind (gets, arith, common_steps, unsigned_tied q k)

pub insert-removed : {X : Type 0} (m : FinMap nat_cmp X) (k : ℕ) (v : X) → get m k ≡ Some v → insert (remove m k) k v ≡ m
insert-removed m k v h = same_map nat_cmp_total nat_cmp-IsAntisymmetric _ _ (λ q. put_back m k v q h)

taken_out : {X : Type 0} (m : FinMap nat_cmp X) (k : ℕ) (v : X) (q : ℕ) → get m k ≡ None → get (remove (insert m k v) k) q ≡ get m q
taken_out m k v q h = grind (gets, arith, common_steps, unsigned_tied q k)

pub remove-inserted : {X : Type 0} (m : FinMap nat_cmp X) (k : ℕ) (v : X) → get m k ≡ None → remove (insert m k v) k ≡ m
remove-inserted m k v h = same_map nat_cmp_total nat_cmp-IsAntisymmetric _ _ (λ q. taken_out m k v q h)

written_over : {X : Type 0} (m : FinMap nat_cmp X) (k : ℕ) (v w : X) (q : ℕ) → get m k ≡ Some v → get (insert (insert m k w) k v) q ≡ get m q
written_over m k v w q h = grind (gets, arith, common_steps, unsigned_tied q k)

pub insert-inserted : {X : Type 0} (m : FinMap nat_cmp X) (k : ℕ) (v w : X) → get m k ≡ Some v → insert (insert m k w) k v ≡ m
insert-inserted m k v w h = same_map nat_cmp_total nat_cmp-IsAntisymmetric _ _ (λ q. written_over m k v w q h)

len-new : {X : Type 0} (m : FinMap nat_cmp X) (k : ℕ) (v : X) → get m k ≡ None → len (insert m k v) ≡ len m + 1
len-new m k v h = len-insert nat_cmp_total m k v ∙ ap (λ o. cond (is_some o) (len m) (len m + 1)) h

len-over : {X : Type 0} (m : FinMap nat_cmp X) (k : ℕ) (v : X) (o : Option X) → get m k ≡ o → IsSome o → len (insert m k v) ≡ len m
len-over m k v None e h = absurd cc
len-over m k v (Some w) e h = len-insert nat_cmp_total m k v ∙ ap (λ o. cond (is_some o) (len m) (len m + 1)) e

len-gone : {X : Type 0} (m : FinMap nat_cmp X) (k : ℕ) (o : Option X) → get m k ≡ o → IsSome o → len (remove m k) ≡ len m - 1
len-gone m k None e h = absurd cc
len-gone m k (Some w) e h = len-remove nat_cmp_total m k ∙ ap (λ o. cond (is_some o) (len m - 1) (len m)) e

none_in_empty : {X : Type 0} (m : FinMap nat_cmp X) (k : ℕ) → IsSome (get m k) → len m ≡ 0 → ⊥
none_in_empty m k h e = let is = empty_of_len m e in let s = rw (is, get-empty) at h in cc

some_there : {X : Type 0} (m : FinMap nat_cmp X) (k : ℕ) → IsSome (get m k) → 1 ≤ len m
some_there m k h = let ne : len m ≢ 0 = none_in_empty m k h in omega arith

-- ---- numbers that are vacant

pub next_node_vacant : (g : Graph) → IsGraph g → node_at g g.next_node ≡ None
next_node_vacant g w = vacant (node_at g g.next_node) (λ s. let b : g.next_node < g.next_node = w.nodes_below g.next_node s in omega arith)

pub next_edge_vacant : (g : Graph) → IsGraph g → edge_at g g.next_edge ≡ None
next_edge_vacant g w = vacant (edge_at g g.next_edge) (λ s. let b : g.next_edge < g.next_edge = w.edges_below g.next_edge s in omega arith)

-- ---- how many nodes there are

pub count-with_node : (g : Graph) (x : Node) → IsGraph g → node_count (with_node g x) ≡ node_count g + 1
count-with_node g x w = len-new g.nodes g.next_node x (next_node_vacant g w)

pub count-with_node_at : (g : Graph) (n : ℕ) (x : Node) → node_at g n ≡ None → node_count (with_node_at g n x) ≡ node_count g + 1
count-with_node_at g n x h = len-new g.nodes n x h

pub count-relabeled : (g : Graph) (n : ℕ) (x : Node) → IsSome (node_at g n) → node_count (relabeled g n x) ≡ node_count g
count-relabeled g n x h = len-over g.nodes n x (node_at g n) refl h

pub count-without_node : (g : Graph) (n : ℕ) → IsSome (node_at g n) → node_count (without_node g n) ≡ node_count g - 1
count-without_node g n h = len-gone g.nodes n (node_at g n) refl h

pub node_counted : (g : Graph) (n : ℕ) → IsSome (node_at g n) → 1 ≤ node_count g
node_counted g n h = some_there g.nodes n h

-- ---- what takes an edit back

pub node_put_back : (g : Graph) (n : ℕ) (x : Node) → node_at g n ≡ Some x → with_node_at (without_node g n) n x ≡ g
node_put_back g n x h = ap (λ (m : FinMap nat_cmp Node). record g { nodes = m }) (insert-removed g.nodes n x h)

pub edge_put_back : (g : Graph) (e : ℕ) (d : Edge) → edge_at g e ≡ Some d → with_edge_at (without_edge g e) e d ≡ g
edge_put_back g e d h = ap (λ (m : FinMap nat_cmp Edge). record g { edges = m }) (insert-removed g.edges e d h)

pub relabeled_back : (g : Graph) (n : ℕ) (x y : Node) → node_at g n ≡ Some x → relabeled (relabeled g n y) n x ≡ g
relabeled_back g n x y h = ap (λ (m : FinMap nat_cmp Node). record g { nodes = m }) (insert-inserted g.nodes n x y h)

pub node_dropped : (g : Graph) (x : Node) → IsGraph g → without_node_number (without_node (with_node g x) g.next_node) ≡ g
node_dropped g x w =
    let m = remove-inserted g.nodes g.next_node x (next_node_vacant g w) in
    let n = less_one g.next_node in
    λ i. record { nodes = m i; edges = g.edges; next_node = n i; next_edge = g.next_edge }

pub edge_dropped : (g : Graph) (d : Edge) → IsGraph g → without_edge_number (without_edge (with_edge g d) g.next_edge) ≡ g
edge_dropped g d w =
    let m = remove-inserted g.edges g.next_edge d (next_edge_vacant g w) in
    let n = less_one g.next_edge in
    λ i. record { nodes = g.nodes; edges = m i; next_node = g.next_node; next_edge = n i }

-- ---- edits that leave a graph

pub IsGraph-with_node_at : (g : Graph) (k : ℕ) (x : Node) → IsGraph g → k < g.next_node → AreAtoms x.label → IsGraph (with_node_at g k x)
IsGraph-with_node_at g k x w b v = record {
  nodes_below = λ n h. elim (IsSome-inserted g.nodes k n x h) [ inl e ↦ omega arith | inr s ↦ w.nodes_below n s ];
  edges_below = w.edges_below;
  sources = λ e d h. IsSome-insert g.nodes k d.source x (w.sources e d h);
  targets = λ e d h. IsSome-insert g.nodes k d.target x (w.targets e d h);
  node_labels = each-insert (λ (y : Node). AreAtoms y.label) g.nodes k x v w.node_labels;
  edge_labels = w.edge_labels;
}

pub IsGraph-with_edge_at : (g : Graph) (k : ℕ) (d : Edge) → IsGraph g → k < g.next_edge → IsSome (node_at g d.source) → IsSome (node_at g d.target) → AreAtoms d.label → IsGraph (with_edge_at g k d)
IsGraph-with_edge_at g k d w b s t v = record {
  nodes_below = w.nodes_below;
  edges_below = λ n h. elim (IsSome-inserted g.edges k n d h) [ inl e ↦ omega arith | inr r ↦ w.edges_below n r ];
  sources = each-insert (λ (z : Edge). IsSome (node_at g z.source)) g.edges k d s w.sources;
  targets = each-insert (λ (z : Edge). IsSome (node_at g z.target)) g.edges k d t w.targets;
  node_labels = w.node_labels;
  edge_labels = each-insert (λ (z : Edge). AreAtoms z.label) g.edges k d v w.edge_labels;
}

not_both : {X : Type 0} (o : Option X) → IsSome o → o ≡ None → ⊥
not_both None s e = cc
not_both (Some x) s e = cc

still_below : (n k : ℕ) → (n ≡ k - 1 → ⊥) → n < k → n < k - 1
still_below n k h b = grind (arith, common_steps)

pub IsGraph-without_node_number : (g : Graph) → IsGraph g → node_at g (g.next_node - 1) ≡ None → IsGraph (without_node_number g)
IsGraph-without_node_number g w h = record {
  nodes_below = λ n s. still_below n g.next_node (λ e. not_both (node_at g n) s (ap (node_at g) e ∙ h)) (w.nodes_below n s);
  edges_below = w.edges_below;
  sources = w.sources;
  targets = w.targets;
  node_labels = w.node_labels;
  edge_labels = w.edge_labels;
}

pub IsGraph-without_edge_number : (g : Graph) → IsGraph g → edge_at g (g.next_edge - 1) ≡ None → IsGraph (without_edge_number g)
IsGraph-without_edge_number g w h = record {
  nodes_below = w.nodes_below;
  edges_below = λ n s. still_below n g.next_edge (λ e. not_both (edge_at g n) s (ap (edge_at g) e ∙ h)) (w.edges_below n s);
  sources = w.sources;
  targets = w.targets;
  node_labels = w.node_labels;
  edge_labels = w.edge_labels;
}

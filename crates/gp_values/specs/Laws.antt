-- What holds of graphs and their edits, whoever makes them.
use Rattle.std.specs.Prelude.{◌≡◌, ℕ, ◌-◌, ◌<◌, List, IsSome, Some, None}
use Rattle.std.specs.Bool.{Decides}
use Rattle.gp_values.specs.declared.atom.Atom.{Atom}
use Rattle.gp_values.specs.Atoms.{AreAtoms, same_list}
use Rattle.gp_values.specs.Graph.{Node, Edge, Graph, IsGraph, HasNoEdges, node_at, edge_at, empty_graph, with_node, with_edge, without_node, without_edge, relabeled, with_node_at, with_edge_at, without_node_number, without_edge_number}

-- Each edit leaves a graph, where what it names is there.
pub record EditsKeepGraphs : Type 0 where
  pub empty : IsGraph empty_graph
  pub node : (g : Graph) (x : Node) → IsGraph g → AreAtoms x.label → IsGraph (with_node g x)
  pub edge : (g : Graph) (d : Edge) → IsGraph g → IsSome (node_at g d.source) → IsSome (node_at g d.target) → AreAtoms d.label → IsGraph (with_edge g d)
  pub no_node : (g : Graph) (n : ℕ) → IsGraph g → HasNoEdges g n → IsGraph (without_node g n)
  pub no_edge : (g : Graph) (e : ℕ) → IsGraph g → IsGraph (without_edge g e)
  pub label : (g : Graph) (n : ℕ) (x : Node) → IsGraph g → IsSome (node_at g n) → AreAtoms x.label → IsGraph (relabeled g n x)
  pub node_at_number : (g : Graph) (n : ℕ) (x : Node) → IsGraph g → n < g.next_node → AreAtoms x.label → IsGraph (with_node_at g n x)
  pub edge_at_number : (g : Graph) (e : ℕ) (d : Edge) → IsGraph g → e < g.next_edge → IsSome (node_at g d.source) → IsSome (node_at g d.target) → AreAtoms d.label → IsGraph (with_edge_at g e d)
  pub no_node_number : (g : Graph) → IsGraph g → node_at g (g.next_node - 1) ≡ None → IsGraph (without_node_number g)
  pub no_edge_number : (g : Graph) → IsGraph g → edge_at g (g.next_edge - 1) ≡ None → IsGraph (without_edge_number g)

-- What an edit names is what changes, and all else stays.
pub record EditsChangeOnePlace : Type 0 where
  pub new_node : (g : Graph) (x : Node) → node_at (with_node g x) g.next_node ≡ Some x
  pub other_nodes : (g : Graph) (x : Node) (q : ℕ) → (q ≡ g.next_node → ⊥) → node_at (with_node g x) q ≡ node_at g q
  pub new_edge : (g : Graph) (d : Edge) → edge_at (with_edge g d) g.next_edge ≡ Some d
  pub other_edges : (g : Graph) (d : Edge) (q : ℕ) → (q ≡ g.next_edge → ⊥) → edge_at (with_edge g d) q ≡ edge_at g q
  pub no_node : (g : Graph) (n : ℕ) → node_at (without_node g n) n ≡ None
  pub nodes_left : (g : Graph) (n q : ℕ) → (q ≡ n → ⊥) → node_at (without_node g n) q ≡ node_at g q
  pub no_edge : (g : Graph) (e : ℕ) → edge_at (without_edge g e) e ≡ None
  pub edges_left : (g : Graph) (e q : ℕ) → (q ≡ e → ⊥) → edge_at (without_edge g e) q ≡ edge_at g q
  pub label : (g : Graph) (n : ℕ) (x : Node) → node_at (relabeled g n x) n ≡ Some x
  pub other_labels : (g : Graph) (n q : ℕ) (x : Node) → (q ≡ n → ⊥) → node_at (relabeled g n x) q ≡ node_at g q
  pub node_put : (g : Graph) (n : ℕ) (x : Node) → node_at (with_node_at g n x) n ≡ Some x
  pub nodes_beside : (g : Graph) (n q : ℕ) (x : Node) → (q ≡ n → ⊥) → node_at (with_node_at g n x) q ≡ node_at g q
  pub edge_put : (g : Graph) (e : ℕ) (d : Edge) → edge_at (with_edge_at g e d) e ≡ Some d
  pub edges_beside : (g : Graph) (e q : ℕ) (d : Edge) → (q ≡ e → ⊥) → edge_at (with_edge_at g e d) q ≡ edge_at g q

-- Each edit is taken back by another: the graph is then what it was, with its next numbers.
pub record EditsAreTakenBack : Type 0 where
  pub node_removed : (g : Graph) (n : ℕ) (x : Node) → node_at g n ≡ Some x → with_node_at (without_node g n) n x ≡ g
  pub edge_removed : (g : Graph) (e : ℕ) (d : Edge) → edge_at g e ≡ Some d → with_edge_at (without_edge g e) e d ≡ g
  pub node_added : (g : Graph) (x : Node) → IsGraph g → without_node_number (without_node (with_node g x) g.next_node) ≡ g
  pub edge_added : (g : Graph) (d : Edge) → IsGraph g → without_edge_number (without_edge (with_edge g d) g.next_edge) ≡ g
  pub node_relabeled : (g : Graph) (n : ℕ) (x y : Node) → node_at g n ≡ Some x → relabeled (relabeled g n y) n x ≡ g

-- Graphs with the same nodes, edges and next numbers are one graph.
abbrev pub SameGraphs : Type 0
SameGraphs =
    (g h : Graph) → ((n : ℕ) → node_at g n ≡ node_at h n) → ((e : ℕ) → edge_at g e ≡ edge_at h e)
    → g.next_node ≡ h.next_node → g.next_edge ≡ h.next_edge → g ≡ h

-- The tests of equality that definitions use say yes exactly for equal lists.
abbrev pub TestsEquality : Type 0
TestsEquality = (v w : List Atom) → Decides (same_list v w) (v ≡ w)

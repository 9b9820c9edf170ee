-- A host graph, as every contract sees it: two finite maps from numbers, and the two next numbers (Plump 2012,
-- section 2: graphs over labels; Bak 2015: root nodes and marks).
use Rattle.std.specs.Prelude.{◌≡◌, ℕ, ◌+◌, ◌-◌, ◌<◌, ◌==◌, Bool, List, count_by, refl, Option, IsSome, Some}
use Rattle.std.specs.Coded.{Coded, code_by, coded×, coded_ℕ, coded_bool, coded_list}
use Rattle.std.specs.Option.{option_map_or}
use Rattle.std.specs.Ordering.{nat_cmp}
use Rattle.std.specs.FinMap as map
use Rattle.gp_values.specs.declared.atom.Atom.{Atom}
use Rattle.gp_values.specs.declared.marks.NodeMark.{NodeMark}
use Rattle.gp_values.specs.declared.marks.EdgeMark.{EdgeMark}
use Rattle.gp_values.specs.contracts.atom.Atom.{the_row as atom_row}
use Rattle.gp_values.specs.contracts.marks.NodeMark.{the_row as node_mark_row}
use Rattle.gp_values.specs.contracts.marks.EdgeMark.{the_row as edge_mark_row}
use Rattle.gp_values.specs.Atoms.{AreAtoms}

-- what a node carries
pub record Node : Type 0 where
  pub label : List Atom
  pub mark : NodeMark
  pub root : Bool

-- what an edge carries: the numbers of the nodes that it goes from and to, and its own label and mark
pub record Edge : Type 0 where
  pub source : ℕ
  pub target : ℕ
  pub label : List Atom
  pub mark : EdgeMark

-- Loops and parallel edges are allowed, since an edge has a number of its own. Two graphs are equal where all four
-- parts are.
pub record Graph : Type 0 where
  pub nodes : map.FinMap nat_cmp Node
  pub edges : map.FinMap nat_cmp Edge
  pub next_node : ℕ
  pub next_edge : ℕ

-- what stands at a number
abbrev pub node_at : Graph → ℕ → Option Node
node_at g n = map.get g.nodes n

abbrev pub edge_at : Graph → ℕ → Option Edge
edge_at g e = map.get g.edges e

-- how many edges end and how many begin at a node; a loop counts once in each
abbrev pub in_degree : Graph → ℕ → ℕ
in_degree g n = count_by (λ (e : ℕ × Edge). e.1.target == n) (map.entries g.edges)

abbrev pub out_degree : Graph → ℕ → ℕ
out_degree g n = count_by (λ (e : ℕ × Edge). e.1.source == n) (map.entries g.edges)

-- how many nodes there are, and how many of them are roots
abbrev pub node_count : Graph → ℕ
node_count g = map.len g.nodes

abbrev pub root_count : Graph → ℕ
root_count g = count_by (λ (e : ℕ × Node). e.1.root) (map.entries g.nodes)

-- Used numbers are below the next ones, the ends of edges are nodes, and labels are lists of atoms in their ranges.
pub record IsGraph (g : Graph) : Type 0 where
  pub nodes_below : (n : ℕ) → IsSome (node_at g n) → n < g.next_node
  pub edges_below : (e : ℕ) → IsSome (edge_at g e) → e < g.next_edge
  pub sources : (e : ℕ) (d : Edge) → edge_at g e ≡ Some d → IsSome (node_at g d.source)
  pub targets : (e : ℕ) (d : Edge) → edge_at g e ≡ Some d → IsSome (node_at g d.target)
  pub node_labels : (n : ℕ) (x : Node) → node_at g n ≡ Some x → AreAtoms x.label
  pub edge_labels : (e : ℕ) (d : Edge) → edge_at g e ≡ Some d → AreAtoms d.label

-- ---- the edits that contracts above name

abbrev pub empty_graph : Graph
empty_graph = record { nodes = map.empty; edges = map.empty; next_node = 0; next_edge = 0 }

-- one node more, with the next number
abbrev pub with_node : Graph → Node → Graph
with_node g x = record g { nodes = map.insert g.nodes g.next_node x; next_node = g.next_node + 1 }

-- one edge more, with the next number
abbrev pub with_edge : Graph → Edge → Graph
with_edge g d = record g { edges = map.insert g.edges g.next_edge d; next_edge = g.next_edge + 1 }

-- one node less; the next number stays
abbrev pub without_node : Graph → ℕ → Graph
without_node g n = record g { nodes = map.remove g.nodes n }

-- one edge less; the next number stays
abbrev pub without_edge : Graph → ℕ → Graph
without_edge g e = record g { edges = map.remove g.edges e }

-- the node of this number carries something else
abbrev pub relabeled : Graph → ℕ → Node → Graph
relabeled g n x = record g { nodes = map.insert g.nodes n x }

-- the edge of this number carries another label and mark, and its ends stay
abbrev pub relabeled_edge : Graph → ℕ → List Atom → EdgeMark → Graph
relabeled_edge g e l m = option_map_or (λ (d : Edge). record g { edges = map.insert g.edges e (record d { label = l; mark = m }) }) (edge_at g e) g

-- a node stands at a number below the next one
abbrev pub with_node_at : Graph → ℕ → Node → Graph
with_node_at g n x = record g { nodes = map.insert g.nodes n x }

-- an edge stands at a number below the next one
abbrev pub with_edge_at : Graph → ℕ → Edge → Graph
with_edge_at g e d = record g { edges = map.insert g.edges e d }

-- the next number of a node is one less
abbrev pub without_node_number : Graph → Graph
without_node_number g = record g { next_node = g.next_node - 1 }

-- the next number of an edge is one less
abbrev pub without_edge_number : Graph → Graph
without_edge_number g = record g { next_edge = g.next_edge - 1 }

-- no edge begins or ends at the node
abbrev pub HasNoEdges : Graph → ℕ → Type 0
HasNoEdges g n = (e : ℕ) (d : Edge) → edge_at g e ≡ Some d → (d.source ≡ n → ⊥) × (d.target ≡ n → ⊥)

-- ---- how a graph is stored in a value that a contract sees

abbrev pub node_code : Coded Node
node_code =
    code_by (List Atom × (NodeMark × Bool))
    (coded× (coded_list atom_row.coded) (coded× node_mark_row.coded coded_bool))
    (λ n. (n.label, (n.mark, n.root)))
    (λ p. record { label = p.0; mark = p.1.0; root = p.1.1 })
    (λ _. refl)

abbrev pub edge_code : Coded Edge
edge_code =
    code_by (ℕ × (ℕ × (List Atom × EdgeMark)))
    (coded× coded_ℕ (coded× coded_ℕ (coded× (coded_list atom_row.coded) edge_mark_row.coded)))
    (λ e. (e.source, (e.target, (e.label, e.mark))))
    (λ p. record { source = p.0; target = p.1.0; label = p.1.1.0; mark = p.1.1.1 })
    (λ _. refl)

abbrev pub graph_code : Coded Graph
graph_code =
    code_by (map.FinMap nat_cmp Node × (map.FinMap nat_cmp Edge × (ℕ × ℕ)))
    (coded× (map.code coded_ℕ node_code) (coded× (map.code coded_ℕ edge_code) (coded× coded_ℕ coded_ℕ)))
    (λ g. (g.nodes, (g.edges, (g.next_node, g.next_edge))))
    (λ p. record { nodes = p.0; edges = p.1.0; next_node = p.1.1.0; next_edge = p.1.1.1 })
    (λ _. refl)

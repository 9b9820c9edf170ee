-- Graphs whose nodes and edges are numbered anew, from 0 on.
use Rattle.std.specs.Prelude.{◌≡◌, ℕ, ◌^◌, ◌≤◌, List, length, Some, slice_get, IsSomeAnd}
use Rattle.std.specs.FinMap.{entries}
use Rattle.gp_values.specs.Graph.{Node, Edge, Graph, node_at, edge_at}

-- Numbers are written by their last 64 digits at most; these have no more.
pub record HasShortNumbers (g : Graph) : Type 0 where
  pub nodes : g.next_node ≤ 10 ^ 64
  pub edges : g.next_edge ≤ 10 ^ 64

-- the node with this number is at this place among the nodes, which go by their numbers and are counted from 0
abbrev pub IsPlace : Graph → ℕ → ℕ → Type 0
IsPlace g n i = (x : Node) × (slice_get (entries g.nodes) i ≡ Some (n, x))

-- the same edge, from and to the places of its ends
pub record IsMoved (g : Graph) (d e : Edge) : Type 0 where
  pub source : IsPlace g d.source e.source
  pub target : IsPlace g d.target e.target
  pub label : e.label ≡ d.label
  pub mark : e.mark ≡ d.mark

-- The second graph has at each place what the node of the first at this place carries, and the edges of the list, moved,
-- in the order of the list. Its next numbers are how many there are.
pub record IsRenumbered (g : Graph) (ds : List Edge) (h : Graph) : Type 0 where
  pub next_node : h.next_node ≡ length (entries g.nodes)
  pub next_edge : h.next_edge ≡ length ds
  pub nodes : (i n : ℕ) (x : Node) → slice_get (entries g.nodes) i ≡ Some (n, x) → node_at h i ≡ Some x
  pub edges : (i : ℕ) (d : Edge) → slice_get ds i ≡ Some d → IsSomeAnd (edge_at h i) (IsMoved g d)

-- The nodes and the edges of a graph in the order of their numbers, as a walk over the numbers meets them.
use Rattle.std.specs.Prelude.{◌≡◌, ℕ, suc, zero, ◌+◌, List, [], ◌∷◌, ◌++◌, Option, Some, None}
use Rattle.std.specs.Ordering.{nat_cmp}
use Rattle.std.specs.FinMap as map
use Rattle.gp_values.specs.Graph.{Node, Edge, Graph, IsGraph, node_at, edge_at}

-- what stands at a number, with the number
abbrev pub numbered : {X : Type 0} → ℕ → Option X → List (ℕ × X)
numbered n None = []
numbered n (Some x) = (n, x) ∷ []

-- the entries of a map at this many numbers, beginning with n
abbrev pub entries_from : {X : Type 0} → map.FinMap nat_cmp X → ℕ → ℕ → List (ℕ × X)
entries_from m n zero = []
entries_from m n (suc count) = numbered n (map.get m n) ++ entries_from m (n + 1) count

abbrev pub nodes_from : Graph → ℕ → ℕ → List (ℕ × Node)
nodes_from g n count = entries_from g.nodes n count

abbrev pub edges_from : Graph → ℕ → ℕ → List (ℕ × Edge)
edges_from g n count = entries_from g.edges n count

-- A walk from 0 to the next number meets each node and each edge, in the order of their numbers, and each number that
-- it goes on adds what stands there.
pub record WalksMeetAll : Type 0 where
  pub nodes : (g : Graph) → IsGraph g → map.entries g.nodes ≡ nodes_from g 0 g.next_node
  pub edges : (g : Graph) → IsGraph g → map.entries g.edges ≡ edges_from g 0 g.next_edge
  pub one_node_more : (g : Graph) (n count : ℕ) → nodes_from g n (count + 1) ≡ nodes_from g n count ++ numbered (n + count) (node_at g (n + count))
  pub one_edge_more : (g : Graph) (n count : ℕ) → edges_from g n (count + 1) ≡ edges_from g n count ++ numbered (n + count) (edge_at g (n + count))

-- The hosts of demo workloads: a list of nodes and a list of edges, made from a size and the words of a generator.
use Rattle.std.specs.Prelude.{ℕ, ◌+◌, ◌*◌, ◌-◌, ◌%◌, ◌≤◌, ◌==◌, Bool, false, if◌then◌else◌, Option, Some, None, List, [], ◌∷◌, ◌++◌, map, flat_map, length}
use Rattle.std.specs.List.{range_with_len, zip}
use Rattle.rand_core.specs.Steps.{first_words}
use Rattle.rand_core.specs.Pcg32Seed.{pcg32_seed}
use Rattle.rand_pcg.specs.Lcg.{Lcg}
use Rattle.rand_pcg.specs.Pcg.{pcg32, pcg32_of_seed}
use Rattle.gp_gen.specs.declared.kind.Kind.{Kind}
use Rattle.gp_gen.specs.declared.kind.Kind.TheVariants.{Closure, Colour, Tree}

-- ---- sizes

abbrev pub largest : Kind → ℕ
largest Closure = 500
largest Colour = 500
largest Tree = 18

-- the sizes of a kind
pub record IsSize (kind : Kind) (n : ℕ) : Type 0 where
  pub least : 1 ≤ n
  pub most : n ≤ largest kind

-- ---- nodes and edges

-- a node: its number, its label, which is an integer, and whether it is marked red
pub record HostNode : Type 0 where
  pub number : ℕ
  pub label : ℕ
  pub is_red : Bool

-- an edge: the numbers of its ends, and its label, an integer or the empty list
pub record HostEdge : Type 0 where
  pub source : ℕ
  pub target : ℕ
  pub label : Option ℕ

-- ---- words

-- the generator of a seed (O'Neill 2014: PCG32)
abbrev pub seeded : ℕ → Lcg
seeded seed = pcg32_of_seed (pcg32_seed 16 seed)

-- its first words
abbrev pub words : ℕ → ℕ → List ℕ
words seed count = first_words pcg32 count (seeded seed)

-- an edge for each item of a list, made from the item and the next word
abbrev pub drawn : {A : Type 0} → (A × ℕ → HostEdge) → List A → ℕ → List HostEdge
drawn edge items seed = map edge (zip items (words seed (length items)))

-- ---- closure: a ring of n nodes

abbrev pub numbers_below : ℕ → List ℕ
numbers_below n = range_with_len 0 n

abbrev pub plain_node : ℕ → HostNode
plain_node k = record { number = k; label = k; is_red = false }

-- from node i to the next one, and from the last one to node 0
abbrev pub ring_edge : ℕ → ℕ × ℕ → HostEdge
ring_edge n (i, word) = record { source = i; target = (i + 1) % n; label = Some (word % 1000) }

-- ---- colour: a grid of n rows and n columns, node r * n + c in row r and column c

-- node 0 is red
abbrev pub grid_node : ℕ → HostNode
grid_node k = record { number = k; label = k; is_red = k == 0 }

-- each node of a row but the last, with the next node of the row
abbrev pub row_pairs : ℕ → ℕ → List (ℕ × ℕ)
row_pairs n r = map (λ c. (r * n + c, r * n + c + 1)) (numbers_below (n - 1))

-- each node of a row, with the node of the next row in its column
abbrev pub column_pairs : ℕ → ℕ → List (ℕ × ℕ)
column_pairs n r = map (λ c. (r * n + c, (r + 1) * n + c)) (numbers_below n)

-- the neighbours in all rows, and then those in all columns
abbrev pub grid_pairs : ℕ → List (ℕ × ℕ)
grid_pairs n = flat_map (row_pairs n) (numbers_below n) ++ flat_map (column_pairs n) (numbers_below (n - 1))

abbrev pub plain_edge : ℕ → ℕ → HostEdge
plain_edge source target = record { source = source; target = target; label = None }

-- between the two of a pair, from the smaller to the greater number, or back where the lowest bit of the word is 1
abbrev pub grid_edge : (ℕ × ℕ) × ℕ → HostEdge
grid_edge ((small, great), word) = if word % 2 == 1 then plain_edge great small else plain_edge small great

-- ---- the host of a kind

-- that of a tree is one node, whose label is the size
abbrev pub host_nodes : Kind → ℕ → List HostNode
host_nodes Closure n = map plain_node (numbers_below n)
host_nodes Colour n = map grid_node (numbers_below (n * n))
host_nodes Tree n = record { number = 0; label = n; is_red = false } ∷ []

abbrev pub host_edges : Kind → ℕ → ℕ → List HostEdge
host_edges Closure n seed = drawn (ring_edge n) (numbers_below n) seed
host_edges Colour n seed = drawn grid_edge (grid_pairs n) seed
host_edges Tree n seed = []

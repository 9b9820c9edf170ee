-- The tokens of a graph's text.
use Rattle.std.proofs.Common.{◌≡◌, ℕ, zero, suc, ◌+◌, ◌^◌, ◌≤◌, List, [], ◌∷◌, ◌++◌, length, map, Option, Some, None, Ok, refl, sym, ap, ◌∙◌, arith}
use Rattle.std.specs.Prelude.{All, IsSome, is_some, IsPermutation}
use Rattle.std.specs.Ordering.{nat_cmp}
use Rattle.std.specs.FinMap.{FinMap, get, entries}
use Rattle.std.proofs.lemmas.List.{length-map}
use Rattle.std.proofs.lemmas.List.Sorted.{All-permutation, length_permutation}
use Rattle.gp_tokens.specs.Lexed.{tokens_of}
use Rattle.gp_values.specs.Atoms.{AreAtoms}
use Rattle.gp_values.specs.Graph.{Node, Edge, Graph, IsGraph, node_at}
use Rattle.gp_values.specs.Order.{numbered, entries_from}
use Rattle.gp_values.proofs.Order.{entries-walk}
use Rattle.gp_hostfile.specs.GraphText.{edges_of, IsGraphText}
use Rattle.gp_tokens.proofs.Pieces.{spelled, tokens_at, tokens_of_pieces}
use Rattle.gp_hostfile.proofs.GraphPieces.{graph_pieces, spelled_graph}
use Rattle.gp_hostfile.proofs.GraphStands.{Each, IsShortNode, IsShortEdge, graph_stands}

-- ---- lists

all_from_each : {A : Type 0} (P : A → Type 0) (xs : List A) → Each P xs → All P xs
all_from_each P [] h i d lt = absurd (omega arith)
all_from_each P (x ∷ xs) h zero d lt = h.0
all_from_each P (x ∷ xs) h (suc i) d lt = all_from_each P xs h.1 i d (omega arith)

each_from_all : {A : Type 0} (P : A → Type 0) (xs : List A) → All P xs → Each P xs
each_from_all P [] h = tt
each_from_all P (x ∷ xs) h = (h 0 x (omega arith), each_from_all P xs (λ i d lt. h (suc i) d (omega arith)))

pub each_permuted : {A : Type 0} (P : A → Type 0) (xs ys : List A) → IsPermutation xs ys → Each P xs → Each P ys
each_permuted P xs ys p h = each_from_all P ys (All-permutation P xs ys p (all_from_each P xs h))

pub each_mapped : {A B : Type 0} (P : B → Type 0) (f : A → B) (xs : List A) → Each (λ x. P (f x)) xs → Each P (map f xs)
each_mapped P f [] h = tt
each_mapped P f (x ∷ xs) h = (h.0, each_mapped P f xs h.1)

pub each_by : {A : Type 0} (P Q : A → Type 0) → ((x : A) → P x → Q x) → (xs : List A) → Each P xs → Each Q xs
each_by P Q f [] h = tt
each_by P Q f (x ∷ xs) h = (f x h.0, each_by P Q f xs h.1)

-- ---- the entries of a map

walked : {X : Type 0} (m : FinMap nat_cmp X) (P : ℕ × X → Type 0) → ((q : ℕ) (x : X) → get m q ≡ Some x → P (q, x)) → (n count : ℕ) → Each P (entries_from m n count)
walked m P h n zero = tt
walked {X} m P h n (suc count) = go (get m n) refl (walked m P h (n + 1) count)
  where
    go : (o : Option X) → get m n ≡ o → Each P (entries_from m (n + 1) count) → Each P (numbered n o ++ entries_from m (n + 1) count)
    go None e rest = rest
    go (Some x) e rest = (h n x e, rest)

length_walked : {X : Type 0} (m : FinMap nat_cmp X) (n count : ℕ) → length (entries_from m n count) ≤ count
length_walked m n zero = omega arith
length_walked {X} m n (suc count) = go (get m n) (length_walked m (n + 1) count)
  where
    go : (o : Option X) → length (entries_from m (n + 1) count) ≤ count → length (numbered n o ++ entries_from m (n + 1) count) ≤ suc count
    go None le = omega arith
    go (Some x) le = omega arith

-- ---- nodes and edges of a graph

abbrev pub IsNodeOf : Graph → ℕ × Node → Type 0
IsNodeOf g p = node_at g p.0 ≡ Some p.1

pub record IsEdgeOf (g : Graph) (d : Edge) : Type 0 where
  pub source : IsSome (node_at g d.source)
  pub target : IsSome (node_at g d.target)
  pub label : AreAtoms d.label

module _ (g : Graph) (w : IsGraph g) where
  pub nodes_walk : entries g.nodes ≡ entries_from g.nodes 0 g.next_node
  nodes_walk = entries-walk g.nodes g.next_node w.nodes_below

  edges_walk : entries g.edges ≡ entries_from g.edges 0 g.next_edge
  edges_walk = entries-walk g.edges g.next_edge w.edges_below

  pub nodes_of_graph : Each (IsNodeOf g) (entries g.nodes)
  nodes_of_graph = rw nodes_walk (walked g.nodes (IsNodeOf g) (λ q x e. e) 0 g.next_node)

  edges_of_graph : Each (IsEdgeOf g) (edges_of g)
  edges_of_graph =
      let each = walked g.edges (λ (p : ℕ × Edge). IsEdgeOf g p.1) (λ q d e. record { source = w.sources q d e; target = w.targets q d e; label = w.edge_labels q d e }) 0 g.next_edge in
      each_mapped (IsEdgeOf g) (λ (p : ℕ × Edge). p.1) (entries g.edges) (rw edges_walk each)

  count_edges : length (edges_of g) ≤ g.next_edge
  count_edges = let a = length-map (entries g.edges) (λ (p : ℕ × Edge). p.1) in let b = ap length edges_walk in omega (arith, a, b, length_walked g.edges 0 g.next_edge)

  -- the edges of a text of the graph
  module _ (text : List ℕ) (t : IsGraphText g text) where
    pub edges_of_text : Each (IsEdgeOf g) t.edges
    edges_of_text = each_permuted (IsEdgeOf g) (edges_of g) t.edges t.same edges_of_graph

    pub count_of_text : length t.edges ≤ g.next_edge
    count_of_text = omega (arith, length_permutation (edges_of g) t.edges t.same, count_edges)

    module _ (nodes_short : g.next_node ≤ 10 ^ 64) (edges_short : g.next_edge ≤ 10 ^ 64) where
      pub short_nodes : Each IsShortNode (entries g.nodes)
      short_nodes = each_by (IsNodeOf g) IsShortNode (λ p e. let lt = w.nodes_below p.0 (ap is_some e) in record { number = omega arith; label = w.node_labels p.0 p.1 e }) (entries g.nodes) nodes_of_graph

      pub short_edges : Each IsShortEdge t.edges
      short_edges =
          each_by (IsEdgeOf g) IsShortEdge (λ d e. let a = w.nodes_below d.source e.source in let b = w.nodes_below d.target e.target in record { source = omega arith; target = omega arith; label = e.label }) t.edges edges_of_text

      pub tokens_of_text : tokens_of text ≡ Ok (tokens_at 0 (graph_pieces (entries g.nodes) t.edges))
      tokens_of_text =
          let few : length t.edges ≤ 10 ^ 64 = omega (arith, count_of_text) in
          let whole : text ≡ spelled (graph_pieces (entries g.nodes) t.edges) = t.is ∙ sym (spelled_graph (entries g.nodes) t.edges) in
          ap tokens_of whole ∙ tokens_of_pieces (graph_pieces (entries g.nodes) t.edges) (graph_stands (entries g.nodes) t.edges short_nodes few short_edges)

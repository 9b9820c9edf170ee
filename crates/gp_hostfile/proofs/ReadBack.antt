-- The text of a graph is read back.
use Rattle.std.proofs.Common.{◌≡◌, ℕ, zero, suc, ◌+◌, ◌^◌, ◌≤◌, List, [], ◌∷◌, length, Some, refl, sym, ap, ◌∙◌, arith, decimal}
use Rattle.std.specs.Prelude.{slice_get, option_map, IsSome}
use Rattle.std.specs.FinMap.{entries}
use Rattle.gp_values.specs.Names.{place_of}
use Rattle.gp_values.specs.Graph.{Edge, Graph, IsGraph, node_at, edge_at}
use Rattle.gp_hostfile.specs.declared.tree.NodeTree.{NodeTree}
use Rattle.gp_hostfile.specs.declared.tree.EdgeTree.{EdgeTree}
use Rattle.gp_hostfile.specs.Grammar.{HostTree}
use Rattle.gp_hostfile.specs.Host.{node_names, IsBuiltNode, IsBuiltEdge, IsBuilt, IsHostText}
use Rattle.gp_hostfile.specs.GraphText.{IsGraphText}
use Rattle.gp_hostfile.specs.Renumbered.{HasShortNumbers, IsRenumbered}
use Rattle.gp_tokens.proofs.Pieces.{tokens_at}
use Rattle.gp_hostfile.proofs.GraphPieces.{graph_pieces}
use Rattle.gp_hostfile.proofs.GraphStands.{Each}
use Rattle.gp_hostfile.proofs.Written.{each_by, IsEdgeOf, nodes_walk, edges_of_text, count_of_text, short_nodes, short_edges, tokens_of_text}
use Rattle.gp_hostfile.proofs.NumberNames.{RisesFrom, names, place_is, has_this}
use Rattle.gp_hostfile.proofs.NumberedMaps.{walk_rises, number_there, numbered_on}
use Rattle.gp_hostfile.proofs.Renumbering.{place, numbers, moved, renumbered, each_at, node_here, edge_here, placed, renumbered_is_graph, renumbered_is_so}
use Rattle.gp_hostfile.proofs.ReadLines.{IsNodeTree, IsEdgeTree, IsTreeOf, graph_shows}
use Rattle.gp_hostfile.proofs.ReadTrees.{match_length, match_at, node_names_are, HasEnds, none_faulty}

length_numbered : {X : Type 0} (i : ℕ) (xs : List X) → length (numbered_on i xs) ≡ length xs
length_numbered i [] = refl
length_numbered i (x ∷ xs) = ap suc (length_numbered (i + 1) xs)

numbered_at : {X : Type 0} (i k : ℕ) (xs : List X) (q : ℕ × X) → slice_get (numbered_on i xs) k ≡ Some q → slice_get xs k ≡ Some q.1
numbered_at i k [] q h = absurd cc
numbered_at {X} i zero (x ∷ xs) q h = ap (option_map (λ (e : ℕ × X). e.1)) h
numbered_at i (suc k) (x ∷ xs) q h = numbered_at (i + 1) k xs q h

module _ (g : Graph) (w : IsGraph g) (ds : List Edge) (edges : Each (IsEdgeOf g) ds) (rises : RisesFrom 0 (numbers g)) where
  number_at : (n : ℕ) → IsSome (node_at g n) → slice_get (numbers g) (place (numbers g) n) ≡ Some n
  number_at n s = let p = placed g w ds edges rises n s in number_there (entries g.nodes) (place (numbers g) n) n p.0 p.1

  ends_are_known : Each (HasEnds (names 110 (numbers g))) ds
  ends_are_known =
      each_by (IsEdgeOf g) (HasEnds (names 110 (numbers g))) (λ d h. record {
        source = has_this 110 (place (numbers g) d.source) d.source (numbers g) (number_at d.source h.source);
        target = has_this 110 (place (numbers g) d.target) d.target (numbers g) (number_at d.target h.target);
      }) ds edges

  module _ (t : HostTree) (is : IsTreeOf (entries g.nodes) ds t) where
    end_place : (n : ℕ) → IsSome (node_at g n) → place_of (node_names t) (110 ∷ decimal n) ≡ Some (place (numbers g) n)
    end_place n s = ap (λ ns. place_of ns (110 ∷ decimal n)) (node_names_are (entries g.nodes) t.0 is.nodes) ∙ place_is 110 0 (place (numbers g) n) n (numbers g) rises (number_at n s)

    built_node : (i : ℕ) (n : NodeTree) → slice_get t.0 i ≡ Some n → IsBuiltNode n (node_at (renumbered g ds) i)
    built_node i n h =
        let m = match_at IsNodeTree (entries g.nodes) t.0 i n is.nodes h in
        let x = m.0.1 in
        let found : IsNodeTree m.0 n = m.2 in
        record {
          label = x.label;
          mark = x.mark;
          label_is = found.label;
          mark_is = found.mark;
          is = node_here g w ds edges rises i m.0.0 x m.1 ∙ ap (λ r. Some (record { label = x.label; mark = x.mark; root = r })) (sym found.root);
        }

    built_edge : (i : ℕ) (e : EdgeTree) → slice_get t.1 i ≡ Some e → IsBuiltEdge (node_names t) e (edge_at (renumbered g ds) i)
    built_edge i e h =
        let m = match_at IsEdgeTree (numbered_on 0 ds) t.1 i e is.edges h in
        let d = m.0.1 in
        let found : IsEdgeTree m.0 e = m.2 in
        let there : slice_get ds i ≡ Some d = numbered_at 0 i ds m.0 m.1 in
        let ends : IsEdgeOf g d = each_at (IsEdgeOf g) ds i d edges there in
        record {
          source = place (numbers g) d.source;
          target = place (numbers g) d.target;
          label = d.label;
          mark = d.mark;
          begins = ap (place_of (node_names t)) found.source ∙ end_place d.source ends.source;
          ends = ap (place_of (node_names t)) found.target ∙ end_place d.target ends.target;
          label_is = found.label;
          mark_is = found.mark;
          is = edge_here g w ds edges rises i ∙ ap (option_map (moved g)) there;
        }

    built : IsBuilt t (renumbered g ds)
    built = record {
      next_node = sym (match_length IsNodeTree (entries g.nodes) t.0 is.nodes);
      next_edge = sym (match_length IsEdgeTree (numbered_on 0 ds) t.1 is.edges ∙ length_numbered 0 ds);
      nodes = built_node;
      edges = built_edge;
    }

pub read_back : (g : Graph) (text : List ℕ) → IsGraph g → HasShortNumbers g → (t : IsGraphText g text) → (h : Graph) × IsHostText text h × IsRenumbered g t.edges h
read_back g text w short t =
    let rises : RisesFrom 0 (numbers g) = rw (nodes_walk g w) (walk_rises g.nodes 0 g.next_node (omega (arith, short.nodes))) in
    let edges = edges_of_text g w text t in
    let few : length t.edges ≤ 10 ^ 64 = omega (arith, count_of_text g w text t, short.edges) in
    let shown = graph_shows (entries g.nodes) t.edges (short_nodes g w text t short.nodes short.edges) few (short_edges g w text t short.nodes short.edges) 0 in (
      renumbered g t.edges,
      record {
        tokens = tokens_at 0 (graph_pieces (entries g.nodes) t.edges);
        tree = shown.tree;
        lexed = tokens_of_text g w text t short.nodes short.edges;
        shape = shown.shape;
        faultless = none_faulty (entries g.nodes) t.edges shown.tree shown.good rises few (ends_are_known g w t.edges edges rises);
        built = built g w t.edges edges rises shown.tree shown.good;
        graph = renumbered_is_graph g w t.edges edges rises;
      },
      renumbered_is_so g w t.edges edges rises,
    )

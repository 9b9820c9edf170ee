-- A graph numbered anew.
use Rattle.std.proofs.Common.{◌≡◌, ℕ, zero, suc, ◌+◌, ◌<◌, true, cond, List, [], ◌∷◌, length, map, Option, Some, None, refl, sym, ap, subst, ◌∙◌, arith}
use Rattle.std.specs.Prelude.{slice_get, IsSome, is_some, option_map, ◌==◌}
use Rattle.std.specs.FinMap.{entries}
use Rattle.std.proofs.lemmas.Bool.{eq-eqb, ne_eqb}
use Rattle.std.proofs.lemmas.Option.{slice_get-map, slice_get_within}
use Rattle.std.proofs.lemmas.List.{length-map}
use Rattle.gp_memory.proofs.Basics.{some_is}
use Rattle.gp_values.specs.Graph.{Node, Edge, Graph, IsGraph, node_at, edge_at}
use Rattle.gp_values.specs.Atoms.{AreAtoms}
use Rattle.gp_hostfile.specs.Renumbered.{IsPlace, IsMoved, IsRenumbered}
use Rattle.gp_hostfile.proofs.GraphStands.{Each}
use Rattle.gp_hostfile.proofs.NumberNames.{RisesFrom, rises_at}
use Rattle.gp_hostfile.proofs.NumberedMaps.{numbers_of, place_of_entry, number_there, by_places, get-by_places}
use Rattle.gp_hostfile.proofs.Written.{IsNodeOf, IsEdgeOf, nodes_of_graph}

-- ---- places of numbers

abbrev pub place : List ℕ → ℕ → ℕ
place [] n = 0
place (k ∷ ks) n = cond (n == k) 0 (suc (place ks n))

place_of_number : (low i n : ℕ) (ks : List ℕ) → RisesFrom low ks → slice_get ks i ≡ Some n → place ks n ≡ i
place_of_number low i n [] r h = absurd cc
place_of_number low zero n (k ∷ ks) r h = let same : k ≡ n = cc in rw (eq-eqb n k (sym same)) refl
place_of_number low (suc i) n (k ∷ ks) r h =
    let b = rises_at (k + 1) ks i n r.2 h in
    let le = b.0 in
    rw (ne_eqb n k (λ e. omega arith)) (ap suc (place_of_number (k + 1) i n ks r.2 h))

pub each_at : {A : Type 0} (P : A → Type 0) (xs : List A) (i : ℕ) (x : A) → Each P xs → slice_get xs i ≡ Some x → P x
each_at P [] i x e h = absurd cc
each_at P (y ∷ xs) zero x e h = subst P (some_is y x h) e.0
each_at P (y ∷ xs) (suc i) x e h = each_at P xs i x e.1 h

there : {A : Type 0} (o : Option A) → is_some o ≡ true → (x : A) × (o ≡ Some x)
there None h = absurd cc
there (Some x) h = (x, refl)

within : {A : Type 0} (xs : List A) (i : ℕ) → is_some (slice_get xs i) ≡ true → i < length xs
within xs i h = let x = there (slice_get xs i) h in slice_get_within xs i x.0 x.1

-- ---- the graph

abbrev pub numbers : Graph → List ℕ
numbers g = numbers_of (entries g.nodes)

abbrev pub moved : Graph → Edge → Edge
moved g d = record { source = place (numbers g) d.source; target = place (numbers g) d.target; label = d.label; mark = d.mark }

abbrev pub contents : Graph → List Node
contents g = map (λ (p : ℕ × Node). p.1) (entries g.nodes)

abbrev pub renumbered : Graph → List Edge → Graph
renumbered g ds = record { nodes = by_places (contents g); edges = by_places (map (moved g) ds); next_node = length (entries g.nodes); next_edge = length ds }

module _ (g : Graph) (w : IsGraph g) (ds : List Edge) (edges : Each (IsEdgeOf g) ds) (rises : RisesFrom 0 (numbers g)) where
  pub node_here : (i n : ℕ) (x : Node) → slice_get (entries g.nodes) i ≡ Some (n, x) → node_at (renumbered g ds) i ≡ Some x
  node_here i n x h = get-by_places (contents g) i ∙ slice_get-map (λ (p : ℕ × Node). p.1) (entries g.nodes) i ∙ ap (option_map (λ (p : ℕ × Node). p.1)) h

  pub edge_here : (i : ℕ) → edge_at (renumbered g ds) i ≡ option_map (moved g) (slice_get ds i)
  edge_here i = get-by_places (map (moved g) ds) i ∙ slice_get-map (moved g) ds i

  -- a node stands at the place of its number
  pub placed : (n : ℕ) → IsSome (node_at g n) → IsPlace g n (place (numbers g) n)
  placed n s =
      let x = there (node_at g n) s in
      let i = place_of_entry g.nodes n x.0 x.1 in
      let at : place (numbers g) n ≡ i.0 = place_of_number 0 i.0 n (numbers g) rises (number_there (entries g.nodes) i.0 n x.0 i.1) in
      (x.0, rw at i.1)

  node_stands : (n : ℕ) → IsSome (node_at g n) → IsSome (node_at (renumbered g ds) (place (numbers g) n))
  node_stands n s = let p = placed n s in ap is_some (node_here (place (numbers g) n) n p.0 p.1)

  edge_from : (P : Edge → Type 0) → ((d : Edge) → IsEdgeOf g d → P (moved g d)) → (i : ℕ) (e : Edge) → edge_at (renumbered g ds) i ≡ Some e → P e
  edge_from P f i e h = go (slice_get ds i) refl (sym (edge_here i) ∙ h)
    where
      go : (o : Option Edge) → slice_get ds i ≡ o → option_map (moved g) o ≡ Some e → P e
      go None q k = absurd cc
      go (Some d) q k = subst P (some_is (moved g d) e k) (f d (each_at (IsEdgeOf g) ds i d edges q))

  node_from : (P : Node → Type 0) → ((n : ℕ) (x : Node) → node_at g n ≡ Some x → P x) → (i : ℕ) (x : Node) → node_at (renumbered g ds) i ≡ Some x → P x
  node_from P f i x h = go (slice_get (entries g.nodes) i) refl (sym (get-by_places (contents g) i ∙ slice_get-map (λ (p : ℕ × Node). p.1) (entries g.nodes) i) ∙ h)
    where
      go : (o : Option (ℕ × Node)) → slice_get (entries g.nodes) i ≡ o → option_map (λ (p : ℕ × Node). p.1) o ≡ Some x → P x
      go None q k = absurd cc
      go (Some p) q k = subst P (some_is p.1 x k) (f p.0 p.1 (each_at (IsNodeOf g) (entries g.nodes) i p (nodes_of_graph g w) q))

  pub renumbered_is_graph : IsGraph (renumbered g ds)
  renumbered_is_graph = record {
    nodes_below = λ n s.
        let lt = within (contents g) n (rw (get-by_places (contents g) n) at s) in
        omega (arith, length-map (entries g.nodes) (λ (p : ℕ × Node). p.1));
    edges_below = λ e s.
        let lt = within (map (moved g) ds) e (rw (get-by_places (map (moved g) ds) e) at s) in
        omega (arith, length-map ds (moved g));
    sources = λ i e h. edge_from (λ e. IsSome (node_at (renumbered g ds) e.source)) (λ d k. node_stands d.source k.source) i e h;
    targets = λ i e h. edge_from (λ e. IsSome (node_at (renumbered g ds) e.target)) (λ d k. node_stands d.target k.target) i e h;
    node_labels = λ i x h. node_from (λ x. AreAtoms x.label) (λ n x k. w.node_labels n x k) i x h;
    edge_labels = λ i e h. edge_from (λ e. AreAtoms e.label) (λ d k. k.label) i e h;
  }

  moved_edge : (d : Edge) → IsEdgeOf g d → IsMoved g d (moved g d)
  moved_edge d k = record { source = placed d.source k.source; target = placed d.target k.target; label = refl; mark = refl }

  pub renumbered_is_so : IsRenumbered g ds (renumbered g ds)
  renumbered_is_so = record {
    next_node = refl;
    next_edge = refl;
    nodes = node_here;
    edges = λ i d h. rw (edge_here i, h) (moved_edge d (each_at (IsEdgeOf g) ds i d edges h));
  }

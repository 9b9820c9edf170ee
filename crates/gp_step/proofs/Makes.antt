-- The edits of a step, as they are made in memory, may be made and lead to the step's graph.
use Rattle.std.proofs.Common.{◌≡◌, ℕ, ◌+◌, ◌<◌, if◌then◌else◌, true, false, Bool, List, length, Option, Some, Result, Ok, Err, OnOk, IsSome, IsSomeAnd, slice_get, slice_index, Contains, refl, sym, ap, subst, ◌∙◌, ◌⊎◌, inl, inr, arith}
use Rattle.std.specs.Option.{option_map}
use Rattle.std.specs.FinMap.{get}
use Rattle.std.proofs.lemmas.List.{length-map}
use Rattle.std.proofs.lemmas.Option.{none-some, slice_get-map, slice_get_within}
use Rattle.gp_memory.proofs.Basics.{from_map, some_at as element, some_there as some_is, standing, stands_in}
use Rattle.gp_values.specs.Apart.{AreApart}
use Rattle.gp_values.specs.Graph.{Graph, Node, Edge, HasNoEdges, node_at, edge_at}
use Rattle.gp_syntax.specs.declared.rule.RuleParts.{RuleParts}
use Rattle.gp_syntax.specs.Assigned.{PartialAssignment, assigned_of}
use Rattle.gp_syntax.specs.Tree.{rule_of_tree}
use Rattle.gp_syntax.specs.Value.{Assignment}
use Rattle.gp_syntax.specs.Rule.{Rule, RightNode, RightEdge, Found, IsKept, kept_edge, kept_nodes, kept_edges}
use Rattle.gp_syntax.specs.Match.{MatchBy}
use Rattle.gp_syntax.specs.Step.{Applies, AppliesBy, is_exchanged}
use Rattle.gp_syntax.specs.WellFormed.{IsWellFormed}
use Rattle.gp_unify.specs.Matched.{IsThatOfMatch, IsAssignment}
use Rattle.gp_unify.proofs.Candidates.{is_candidate}
use Rattle.gp_step.specs.After.{after_at, after}
use Rattle.gp_step.specs.Laws.{IsNumbered}
use Rattle.gp_syntax.proofs.KeptEdges.{kept_ends}
use Rattle.gp_step.specs.Halves.{images_from, stays, gone, cut}
use Rattle.gp_step.specs.Edits.{made_node, made_edge, images_of, origin_of, stepped}
use Rattle.gp_step.specs.declared.made.KeptEdge.{KeptEdge}
use Rattle.gp_step.specs.inside.Made.{KeepsAs, kept_edge_pairs}
use Rattle.gp_step.specs.inside.Scene.{IsReady, scene}
use Rattle.gp_step.specs.inside.Changes.{StepChanges, MayMake, made_by, changes_of, kept_of, carried_by, drop_edges, relabel_edges, drop_nodes, relabel_nodes, with_nodes}
use Rattle.gp_step.proofs.Halves.{dropped, left, kept_or_gone, gone_place, gone_apart_images, places, stands, length-images}
use Rattle.gp_step.proofs.Turns.{HasEnds, MayAs, write, add_all, placed, length-new, from_new, drop_edges_half, drop_nodes_half, relabel_nodes_half, with_nodes_half, with_edges_half, kept_relabeled, ends_stay, edges_may, nodes_may, kept_may, ends_may, gone_apart}
use Rattle.gp_step.proofs.Staying.{numbers, kept_place, kept_apart, AreAsIn, stays_as}
use Rattle.gp_step.proofs.Afters.{node_there, edge_there, keeps_nodes, keeps_edges, node_places}

pub record MakesStep (r : Rule) (g : Graph) (m : Found) (a : Assignment) (p : StepChanges) : Type 0 where
  pub may : MayMake p g
  pub same : made_by p g ≡ stepped r g m a

module _ (r : Rule) (g : Graph) (m : Found) (a : Assignment) (b : IsNumbered g) (w : MatchBy r g m a) (o : IsWellFormed r) where
  abbrev changes : StepChanges
  changes = changes_of r g m a

  abbrev node : RightNode → Node
  node = made_node r g m a

  abbrev edge : RightEdge → Edge
  edge = made_edge r g m a (images_of r g m)

  abbrev kept_pairs : List (ℕ × Edge)
  kept_pairs = kept_of m.edges (kept_edge r) edge r.right_edges

  -- the graphs on the way
  abbrev first : Graph
  first = drop_edges changes.cut_edges g

  abbrev second : Graph
  second = relabel_edges changes.kept_edges first

  abbrev third : Graph
  third = drop_nodes changes.cut_nodes second

  abbrev fourth : Graph
  fourth = relabel_nodes changes.kept_nodes third

  abbrev fifth : Graph
  fifth = with_nodes changes.new_nodes fourth

  -- the place of an item that keeps another's
  node_kept : (j i : ℕ) → slice_get (kept_nodes r) j ≡ Some (Some i) → (i < length m.nodes) × Contains (images_of r g m) (slice_index m.nodes i)
  node_kept j i e =
      let n : length (images_of r g m) ≡ length (kept_nodes r) = length-images m.nodes (kept_nodes r) g.next_node in
      let l : j < length (kept_nodes r) = slice_get_within (kept_nodes r) j (Some i) e in
      ((keeps_nodes r g m a b w o).within j i e, stands_in (images_of r g m) j (slice_index m.nodes i) (omega arith) ((node_places r g m a b w o).old j i e))

  edge_kept : (j i : ℕ) → slice_get (kept_edges r) j ≡ Some (Some i) → (i < length m.edges) × (Contains changes.cut_edges (slice_index m.edges i) → ⊥)
  edge_kept j i e =
      let images = images_from m.edges (kept_edges r) g.next_edge in
      let p = places (kept_edges r) m.edges g.next_edge (keeps_edges r g m a b w o) in
      let n : length images ≡ length (kept_edges r) = p.count in
      let l : j < length (kept_edges r) = slice_get_within (kept_edges r) j (Some i) e in (
        (keeps_edges r g m a b w o).within j i e,
        λ c. gone_apart_images (kept_edges r) m.edges g.next_edge images (keeps_edges r g m a b w o) p (slice_index m.edges i) c (stands_in images j (slice_index m.edges i) (omega arith) (p.old j i e)),
      )

  -- and it is as it was
  edge_left : (j i : ℕ) → slice_get (kept_edges r) j ≡ Some (Some i) → edge_at first (slice_index m.edges i) ≡ edge_at g (slice_index m.edges i)
  edge_left j i e = ap (λ h. edge_at h (slice_index m.edges i)) (drop_edges_half changes.cut_edges g) ∙ left changes.cut_edges g.edges (slice_index m.edges i) (edge_kept j i e).1

  -- a kept edge is there, with the ends that it is to have
  edges_stand : (j i : ℕ) (q : RightEdge) → slice_get r.right_edges j ≡ Some q → kept_edge r q ≡ Some i → HasEnds (edge_at first (slice_index m.edges i)) (edge q)
  edges_stand j i q h e =
      let k = slice_get-map (kept_edge r) r.right_edges j ∙ ap (option_map (kept_edge r)) h ∙ ap (λ z. Some z) e in
      let d = some_is (edge_at g (slice_index m.edges i)) (edge_there r g m a b w o i (edge_kept j i k).0) in
      let ends = kept_ends r g m a g.next_node (images_of r g m) w (node_places r g m a b w o) q i d.0 e d.1 in
      (d.0, edge_left j i k ∙ d.1, ends.0, ends.1)

  edges_remain : AreAsIn (numbers changes.kept_edges) g first
  edges_remain e c =
      let z = kept_place m.edges (kept_edge r) (λ q. carried_by (edge q)) r.right_edges e c in
      subst (λ n. IsSome (edge_at g n) × (edge_at first n ≡ edge_at g n)) z.3 (edge_there r g m a b w o z.1 (edge_kept z.0 z.1 z.2).0, edge_left z.0 z.1 z.2)

  -- so they may be held as those that stay and those that carry something else
  keeps_as : (ks : List KeptEdge) → kept_edge_pairs g ks ≡ changes.kept_edges → KeepsAs ks g first
  keeps_as ks e =
      let k = keeps_edges r g m a b w o in
      let apart = kept_apart m.edges (kept_edge r) (λ q. carried_by (edge q)) r.right_edges k.apart k.within k.once in
      stays_as ks g first (subst (λ ps. AreApart (numbers ps)) (sym e) apart) (subst (λ ps. AreAsIn (numbers ps) g first) (sym e) edges_remain)

  -- each graph, by its halves
  first_is : first ≡ record g { edges = cut changes.cut_edges g.edges }
  first_is = drop_edges_half changes.cut_edges g

  relabels : MayAs kept_pairs changes.kept_edges first
  relabels = kept_relabeled m.edges (kept_edge r) edge r.right_edges first edges_stand

  second_is : second ≡ record g { edges = write kept_pairs (cut changes.cut_edges g.edges) }
  second_is = relabels.1 ∙ ap (λ (h : Graph). record h { edges = write kept_pairs h.edges }) first_is

  third_is : third ≡ record g { nodes = cut changes.cut_nodes g.nodes; edges = write kept_pairs (cut changes.cut_edges g.edges) }
  third_is = drop_nodes_half changes.cut_nodes second ∙ ap (λ (h : Graph). record h { nodes = cut changes.cut_nodes h.nodes }) second_is

  fourth_is : fourth ≡ record g { nodes = write changes.kept_nodes (cut changes.cut_nodes g.nodes); edges = write kept_pairs (cut changes.cut_edges g.edges) }
  fourth_is = relabel_nodes_half changes.kept_nodes third ∙ ap (λ (h : Graph). record h { nodes = write changes.kept_nodes h.nodes }) third_is

  fifth_is : fifth ≡ record { nodes = (stepped r g m a).nodes; edges = write kept_pairs (cut changes.cut_edges g.edges); next_node = (stepped r g m a).next_node; next_edge = g.next_edge }
  fifth_is =
      let nodes = placed m.nodes origin_of node r.right_nodes (cut changes.cut_nodes g.nodes) g.next_node (λ j i e. let k = keeps_nodes r g m a b w o in k.below i (k.within j i e)) in
      let count = ap (λ n. g.next_node + n) (length-new m.nodes origin_of node r.right_nodes) in
      with_nodes_half changes.new_nodes fourth
      ∙ ap (λ (h : Graph). record h { nodes = add_all changes.new_nodes h.nodes h.next_node; next_node = h.next_node + length changes.new_nodes }) fourth_is
      ∙ (λ i. record { nodes = nodes i; edges = write kept_pairs (cut changes.cut_edges g.edges); next_node = count i; next_edge = g.next_edge })

  last_is : made_by changes g ≡ stepped r g m a
  last_is =
      let edges = placed m.edges (kept_edge r) edge r.right_edges (cut changes.cut_edges g.edges) g.next_edge (λ j i e. let k = keeps_edges r g m a b w o in k.below i (k.within j i e)) in
      let count = ap (λ n. g.next_edge + n) (length-new m.edges (kept_edge r) edge r.right_edges) in
      with_edges_half changes.new_edges fifth
      ∙ ap (λ (h : Graph). record h { edges = add_all changes.new_edges h.edges h.next_edge; next_edge = h.next_edge + length changes.new_edges }) fifth_is
      ∙ (λ i. record { nodes = (stepped r g m a).nodes; edges = edges i; next_node = (stepped r g m a).next_node; next_edge = count i })

  -- a node that goes is there, and no edge is left at it
  goes_there : (n : ℕ) → Contains changes.cut_nodes n → IsSome (node_at second n)
  goes_there n c =
      let z = gone_place (stays (kept_nodes r)) m.nodes n c in
      subst (λ (h : Graph). IsSome (node_at h n)) (sym second_is) (subst (λ i. IsSome (node_at g i)) z.2 (node_there r g m a b w o z.0 z.1))

  image_in : (j n : ℕ) → j < length r.right_nodes → slice_index (images_of r g m) j ≡ n → Contains (images_of r g m) n
  image_in j n l s =
      let k : length (images_of r g m) ≡ length (kept_nodes r) = length-images m.nodes (kept_nodes r) g.next_node in
      let c : length (kept_nodes r) ≡ length r.right_nodes = length-map r.right_nodes origin_of in
      stands_in (images_of r g m) j n (omega arith) s

  either_image : (x : Bool) (j k n : ℕ) → j < length r.right_nodes → k < length r.right_nodes → slice_index (images_of r g m) (if x then j else k) ≡ n → Contains (images_of r g m) n
  either_image true j k n l h s = image_in j n l s
  either_image false j k n l h s = image_in k n h s

  -- a kept edge ends at images alone
  ends_imaged : (j k n : ℕ) (d : Edge) → slice_get (kept_edges r) j ≡ Some (Some k) → edge_at g (slice_index m.edges k) ≡ Some d → (d.source ≡ n) ⊎ (d.target ≡ n) → Contains (images_of r g m) n
  ends_imaged j k n d e i at =
      let q = from_map (kept_edge r) r.right_edges j (Some k) e in
      let ends = kept_ends r g m a g.next_node (images_of r g m) w (node_places r g m a b w o) q.0 k d q.2 i in
      let l = o.right_ends j q.0 q.1 in
      elim at [
        | inl y ↦ either_image (is_exchanged m q.0) q.0.target q.0.source n l.1 l.0 (sym ends.0 ∙ y)
        | inr y ↦ either_image (is_exchanged m q.0) q.0.source q.0.target n l.0 l.1 (sym ends.1 ∙ y)
      ]

  -- and one that does not go ends at no node that goes
  end_differs : (n e : ℕ) (d : Edge) → Contains changes.cut_nodes n → edge_at g e ≡ Some d → (Contains changes.cut_edges e → ⊥) → (d.source ≡ n) ⊎ (d.target ≡ n) → ⊥
  end_differs n e d c i out at =
      let unimaged = gone_apart_images (kept_nodes r) m.nodes g.next_node (images_of r g m) (keeps_nodes r g m a b w o) (node_places r g m a b w o) n c in
      let z = gone_place (stays (kept_nodes r)) m.nodes n c in
      let l : z.0 < length m.nodes = z.1 in
      let count : length m.nodes ≡ length r.left_nodes = w.node_count in
      let unkept : IsKept r z.0 → ⊥ = λ y.
      let p = node_kept y.0 z.0 (slice_get-map origin_of r.right_nodes y.0 ∙ ap (option_map origin_of) y.2 ∙ ap (λ x. Some x) y.3) in
      unimaged (subst (Contains (images_of r g m)) z.2 p.1) in
      let found = w.dangling z.0 e d (omega arith) unkept i (elim at [ inl y ↦ inl (y ∙ sym z.2) | inr y ↦ inr (y ∙ sym z.2) ]) in
      elim (kept_or_gone (kept_edges r) m.edges e found) [
        | inl k ↦ unimaged (ends_imaged k.0 found.0 n d k.1 (ap (edge_at g) (standing m.edges e found) ∙ i) at)
        | inr gone ↦ out gone
      ]

  free : (n : ℕ) → Contains changes.cut_nodes n → HasNoEdges second n
  free n c e d h =
      let f = ends_stay changes.kept_edges first e d h in
      let i : get (cut changes.cut_edges g.edges) e ≡ Some f.0 = sym (ap (λ (h : Graph). edge_at h e) first_is) ∙ f.1 in
      let out : Contains changes.cut_edges e → ⊥ = λ x. none-some f.0 (sym (dropped changes.cut_edges g.edges e x) ∙ i) in
      let was : edge_at g e ≡ Some f.0 = sym (left changes.cut_edges g.edges e out) ∙ i in
      (λ s. end_differs n e f.0 c was out (inl (f.2 ∙ s)), λ t. end_differs n e f.0 c was out (inr (f.3 ∙ t)))

  -- a kept node is still there
  node_stays : (j i : ℕ) → slice_get (kept_nodes r) j ≡ Some (Some i) → IsSome (node_at third (slice_index m.nodes i))
  node_stays j i e =
      let k = node_kept j i e in
      let n = slice_index m.nodes i in
      let stay : Contains changes.cut_nodes n → ⊥ = λ c. gone_apart_images (kept_nodes r) m.nodes g.next_node (images_of r g m) (keeps_nodes r g m a b w o) (node_places r g m a b w o) n c k.1 in
      let same : node_at third n ≡ node_at g n = ap (λ (h : Graph). node_at h n) third_is ∙ left changes.cut_nodes g.nodes n stay in
      rw same (node_there r g m a b w o i k.0)

  -- an image of a right node is there before the edges are put
  end_there : (j : ℕ) → j < length r.right_nodes → IsSome (node_at fifth (slice_index (images_of r g m) j))
  end_there j l =
      let q = element r.right_nodes j l in
      let e : node_at fifth (slice_index (images_of r g m) j) ≡ Some (node q.0) =
      ap (λ (h : Graph). node_at h (slice_index (images_of r g m) j)) fifth_is
      ∙ stands m.nodes origin_of node r.right_nodes g.nodes g.next_node (keeps_nodes r g m a b w o) j q.0 q.1 in
      rw e refl

  either_there : (x : Bool) (j k : ℕ) → j < length r.right_nodes → k < length r.right_nodes → IsSome (node_at fifth (slice_index (images_of r g m) (if x then j else k)))
  either_there true j k l h = end_there j l
  either_there false j k l h = end_there k h

  ends_there : (k : ℕ) (d : Edge) → slice_get changes.new_edges k ≡ Some d → IsSome (node_at fifth d.source) × IsSome (node_at fifth d.target)
  ends_there k d h =
      from_new m.edges (kept_edge r) edge r.right_edges (λ (x : Edge). IsSome (node_at fifth x.source) × IsSome (node_at fifth x.target))
      (λ j q i.
      let l = o.right_ends j q i in
      (either_there (is_exchanged m q) q.target q.source l.1 l.0, either_there (is_exchanged m q) q.source q.target l.0 l.1)) k d h

  cut_there : (e : ℕ) → Contains changes.cut_edges e → IsSome (edge_at g e)
  cut_there e c = let z = gone_place (stays (kept_edges r)) m.edges e c in subst (λ i. IsSome (edge_at g i)) z.2 (edge_there r g m a b w o z.0 z.1)

  makes : MakesStep r g m a changes
  makes = record {
    may = record {
      cut_edges = edges_may changes.cut_edges g cut_there (gone_apart (stays (kept_edges r)) m.edges w.edges_apart);
      kept_edges = relabels.0;
      cut_nodes = nodes_may changes.cut_nodes second (λ n c. (goes_there n c, free n c)) (gone_apart (stays (kept_nodes r)) m.nodes w.nodes_apart);
      kept_nodes = kept_may m.nodes origin_of node r.right_nodes third node_stays;
      new_edges = ends_may changes.new_edges fifth ends_there;
    };
    same = last_is;
  }

  -- whatever holds the changes
  pub makes_step : (p : StepChanges) → p ≡ changes → MakesStep r g m a p
  makes_step p e = subst (MakesStep r g m a) (sym e) makes

  pub keeps_held : (p : StepChanges) → p ≡ changes → (ks : List KeptEdge) → kept_edge_pairs g ks ≡ p.kept_edges → KeepsAs ks g (drop_edges p.cut_edges g)
  keeps_held p e = subst (λ (z : StepChanges). (ks : List KeptEdge) → kept_edge_pairs g ks ≡ z.kept_edges → KeepsAs ks g (drop_edges z.cut_edges g)) (sym e) keeps_as

-- ---- by the assignment that its images tell

pub assignment_is : (r : Rule) (g : Graph) (m : Found) (o : Option PartialAssignment) (b : PartialAssignment) (k : Applies r g m) → IsThatOfMatch o r g m → o ≡ Some b → IsAssignment r k.0 b
assignment_is r g m o b k h e = subst (λ z. IsSomeAnd z (IsAssignment r k.0)) e (h k.0 k.1.is_match)

-- it is its own
pub itself : (r : Rule) (a : Assignment) (b : PartialAssignment) → IsAssignment r a b → IsAssignment r (assigned_of b) b
itself r a b i = record { types = i.types; whole = i.whole; values = refl }

pub is_ready : (p : RuleParts) (g : Graph) (m : Found) (b : PartialAssignment) → IsWellFormed (rule_of_tree p) → (k : Applies (rule_of_tree p) g m) → IsAssignment (rule_of_tree p) k.0 b → IsReady (scene p g m b)
is_ready p g m b c k i = record { well_formed = c; applies = subst (AppliesBy (rule_of_tree p) g m) (sym i.values) k.1; types = i.types; whole = i.whole }

pub after_is : (r : Rule) (g : Graph) (m : Found) (b : PartialAssignment) → IsWellFormed r → (k : Applies r g m) → IsAssignment r k.0 b → after r g m ≡ stepped r g m (assigned_of b)
unfolding after
after_is r g m b c k i = ap (after_at r g m) (is_candidate c k.0 k.1.is_match) ∙ ap (stepped r g m) (sym i.values)

-- what holds of a graph holds of the one that is equal to it, where there is one
pub on_same : {X E : Type 0} (o : Result X E) (P : Graph → Type 0) (h k : Graph) → OnOk o (h ≡ k) → P k → OnOk o (P h)
on_same (Ok x) P h k e w = subst P (sym e) w
on_same (Err x) P h k e w = tt

-- What the calls of a graph owe, over plain lists of slots.
use Rattle.std.proofs.Common.{inl, inr, ◌≡◌, ℕ, zero, suc, ◌+◌, ◌-◌, ◌<◌, List, [], ◌∷◌, ◌++◌, length, take, refl, sym, ap, subst, ◌∙◌, arith, Bool}
use Rattle.std.specs.Prelude.{◌↔◌, Option, Some, None, IsSome, IsSomeAnd, IfSome, slice_set}
use Rattle.std.specs.Option.{option_map, option_map_or}
use Rattle.std.specs.FinMap.{len-empty}
use Rattle.std.specs.Ordering.{nat_cmp}
use Rattle.std.proofs.lemmas.Bool.{cases_eq}
use Rattle.gp_values.specs.declared.atom.Atom.{Atom}
use Rattle.gp_values.specs.declared.marks.NodeMark.{NodeMark}
use Rattle.gp_values.specs.declared.marks.EdgeMark.{EdgeMark}
use Rattle.gp_values.specs.Atoms.{AreAtoms}
use Rattle.gp_values.specs.Graph.{Node, Edge, Graph, IsGraph, HasNoEdges, node_at, edge_at, node_count, with_edge_at, without_edge, relabeled, relabeled_edge}
use Rattle.gp_values.proofs.Graphs.{IsGraph-empty, IsGraph-without_edge, IsGraph-relabeled_edge}
use Rattle.gp_values.proofs.Edits.{IsGraph-without_node_number, IsGraph-without_edge_number}
use Rattle.gp_graph.specs.inside.Slots.{slot_in}
use Rattle.gp_graph.specs.inside.View.{node_of, edge_of, graph_from}
use Rattle.gp_graph.specs.inside.Rings.{end_of, link_in, ring_in, ring_of, next_of, prev_of, first_of, count_of, changed_at, Meets, HasRings, AllRings, AllRingsBut, Links, ShowsSame, root_link, rewritten_edge}
use Rattle.gp_graph.specs.inside.Roots.{HasRoots, HasRootsBut, KeepsNodes, rewritten}
use Rattle.gp_graph.specs.inside.Sound.{IsHeld}
use Rattle.gp_rings.specs.declared.rings.Ring.{Ring}
use Rattle.gp_graph.specs.declared.slots.NodeSlot.{NodeSlot}
use Rattle.gp_graph.specs.declared.slots.EdgeSlot.{EdgeSlot}
use Rattle.gp_graph.specs.declared.rings.Side.{Side}
use Rattle.gp_graph.specs.declared.rings.Side.TheVariants.{Beginning, Ending}
use Rattle.gp_graph.proofs.SlotMaps.{seen_at}
use Rattle.gp_graph.proofs.Views.{nothing, cleared_edge, set_node, set_edge, dropped_node, dropped_edge}
use Rattle.gp_graph.proofs.Links.{kept, changed_here, some_kept, still_some, slot_here, slot_other, slot_within}
use Rattle.gp_rings.proofs.RingSets.{rings_agree}
use Rattle.gp_graph.proofs.Sides.{same_shown, same_rings, gone_node, no_rings, taken, freed, slot_past, slot_pushed, slot_push_other}
use Rattle.gp_graph.proofs.RootSteps.{roots_kept, roots_but, roots_off, no_root, no_roots, ring_rewritten}

-- ---- what stands at a number

some_seen : {X Y : Type 0} (f : X → Y) (o : Option X) → IsSome (option_map f o) → IsSome o
some_seen f None h = absurd cc
some_seen f (Some x) h = refl

pub node_there : (ns : List (Option NodeSlot)) (es : List (Option EdgeSlot)) (n : ℕ) → IsSome (node_at (graph_from ns es) n) → IsSome (slot_in ns n)
node_there ns es n h = some_seen node_of (slot_in ns n) (subst IsSome (seen_at node_of ns n) h)

pub edge_there : (ns : List (Option NodeSlot)) (es : List (Option EdgeSlot)) (e : ℕ) → IsSome (edge_at (graph_from ns es) e) → IsSome (slot_in es e)
edge_there ns es e h = some_seen edge_of (slot_in es e) (subst IsSome (seen_at edge_of es e) h)

none_seen : {X Y : Type 0} (f : X → Y) (o : Option X) → option_map f o ≡ None → o ≡ None
none_seen f None h = refl
none_seen f (Some x) h = absurd cc

pub node_free : (ns : List (Option NodeSlot)) (es : List (Option EdgeSlot)) (n : ℕ) → node_at (graph_from ns es) n ≡ None → slot_in ns n ≡ None
node_free ns es n h = none_seen node_of (slot_in ns n) (sym (seen_at node_of ns n) ∙ h)

pub edge_free : (ns : List (Option NodeSlot)) (es : List (Option EdgeSlot)) (e : ℕ) → edge_at (graph_from ns es) e ≡ None → slot_in es e ≡ None
edge_free ns es e h = none_seen edge_of (slot_in es e) (sym (seen_at edge_of es e) ∙ h)

meets_slot : (side : Side) (es : List (Option EdgeSlot)) (e : ℕ) (s : EdgeSlot) → slot_in es e ≡ Some s → Meets side es (end_of side (edge_of s)) e
meets_slot side es e s is = subst (λ o. IsSomeAnd (option_map edge_of o) (λ d. end_of side d ≡ end_of side (edge_of s))) (sym is) refl

pub links_slot : (ns : List (Option NodeSlot)) (es : List (Option EdgeSlot)) (e : ℕ) (s : EdgeSlot) → slot_in es e ≡ Some s → IsSome (slot_in ns s.source) → IsSome (slot_in ns s.target) → Links ns es s.source s.target e
links_slot ns es e s is a b = record { source_there = a; target_there = b; begins = meets_slot Beginning es e s is; ends = meets_slot Ending es e s is }

end_there : (ns : List (Option NodeSlot)) (es : List (Option EdgeSlot)) (e n : ℕ) (side : Side) (o : Option Edge) → edge_at (graph_from ns es) e ≡ o → ((d : Edge) → edge_at (graph_from ns es) e ≡ Some d → IsSome (node_at (graph_from ns es) (end_of side d))) → IsSomeAnd o (λ d. end_of side d ≡ n) → IsSome (slot_in ns n)
end_there ns es e n side None is all h = absurd h
end_there ns es e n side (Some d) is all h = subst (λ k. IsSome (slot_in ns k)) h (node_there ns es (end_of side d) (all d is))

-- the ends of an edge are there
pub linked : (ns : List (Option NodeSlot)) (es : List (Option EdgeSlot)) (source target e : ℕ) → IsGraph (graph_from ns es) → Meets Beginning es source e → Meets Ending es target e → Links ns es source target e
linked ns es source target e g b t = record {
  source_there = end_there ns es e source Beginning (option_map edge_of (slot_in es e)) (seen_at edge_of es e) (g.sources e) b;
  target_there = end_there ns es e target Ending (option_map edge_of (slot_in es e)) (seen_at edge_of es e) (g.targets e) t;
  begins = b;
  ends = t;
}

-- ---- edges come and go

pub same_seen : (ns : List (Option NodeSlot)) (es : List (Option EdgeSlot)) (ns' : List (Option NodeSlot)) (es' : List (Option EdgeSlot)) → ShowsSame ns es ns' es' → length ns' ≡ length ns → length es' ≡ length es → graph_from ns' es' ≡ graph_from ns es
same_seen ns es ns' es' s ln le = same_shown ns ns' es es' s.nodes s.edges ln le

pub held_same : (ns : List (Option NodeSlot)) (es : List (Option EdgeSlot)) (ns' : List (Option NodeSlot)) (es' : List (Option EdgeSlot)) (r : Ring) (c : ℕ) (g : Graph) → graph_from ns es ≡ g → IsGraph g → ShowsSame ns es ns' es' → length ns' ≡ length ns → length es' ≡ length es → AllRings ns' es' → HasRoots r ns → c ≡ node_count g → IsHeld ns' es' r c
held_same ns es ns' es' r c g is h s ln le rings roots count =
    let seen : graph_from ns' es' ≡ g = same_seen ns es ns' es' s ln le ∙ is in
    record { graph = subst IsGraph (sym seen) h; rings = rings; roots = roots_kept r ns ns' s.nodes s.roots roots; count = count ∙ ap node_count (sym seen) }

pub rings_added : (ns : List (Option NodeSlot)) (es : List (Option EdgeSlot)) (s : EdgeSlot) → AllRings ns es → AllRingsBut ns (es ++ Some s ∷ []) (length es)
rings_added ns es s r side = taken side ns es (es ++ Some s ∷ []) (length es) (slot_push_other es (Some s)) (slot_past es) (r side)

pub rings_put : (ns : List (Option NodeSlot)) (es : List (Option EdgeSlot)) (e : ℕ) (s : EdgeSlot) → slot_in es e ≡ None → AllRings ns es → AllRingsBut ns (slice_set es e (Some s)) e
rings_put ns es e s none r side = taken side ns es (slice_set es e (Some s)) e (slot_other es e (Some s)) none (r side)

rings_cleared : (ns : List (Option NodeSlot)) (es : List (Option EdgeSlot)) (e : ℕ) → e < length es → AllRingsBut ns es e → AllRings ns (slice_set es e None)
rings_cleared ns es e l r side = freed side ns es (slice_set es e None) e (slot_other es e None) (slot_here es e None l) (r side)

pub seen_cleared : (ns : List (Option NodeSlot)) (es : List (Option EdgeSlot)) (ns' : List (Option NodeSlot)) (es' : List (Option EdgeSlot)) (e : ℕ) → ShowsSame ns es ns' es' → length ns' ≡ length ns → length es' ≡ length es → e < length es → graph_from ns' (slice_set es' e None) ≡ without_edge (graph_from ns es) e
seen_cleared ns es ns' es' e s ln le l =
    let l' : e < length es' = omega arith in
    cleared_edge ns' es' e l' ∙ ap (λ h. without_edge h e) (same_seen ns es ns' es' s ln le)

pub held_cleared : (ns : List (Option NodeSlot)) (es : List (Option EdgeSlot)) (ns' : List (Option NodeSlot)) (es' : List (Option EdgeSlot)) (r : Ring) (c e : ℕ) → IsHeld ns es r c → ShowsSame ns es ns' es' → length ns' ≡ length ns → length es' ≡ length es → AllRingsBut ns' es' e → e < length es → IsHeld ns' (slice_set es' e None) r c
held_cleared ns es ns' es' r c e h s ln le rings l =
    let l' : e < length es' = omega arith in
    let seen = seen_cleared ns es ns' es' e s ln le l in
    record {
      graph = subst IsGraph (sym seen) (IsGraph-without_edge (graph_from ns es) e h.graph);
      rings = rings_cleared ns' es' e l' rings;
      roots = roots_kept r ns ns' s.nodes s.roots h.roots;
      count = h.count ∙ ap node_count (sym seen);
    }

-- the links round the edges have changed and nothing else
pub held_turned : (ns ns' : List (Option NodeSlot)) (es : List (Option EdgeSlot)) (r : Ring) (c : ℕ) → IsHeld ns es r c → ShowsSame ns es ns' es → length ns' ≡ length ns → AllRings ns' es → IsHeld ns' es r c
held_turned ns ns' es r c h s l rings = held_same ns es ns' es r c (graph_from ns es) refl h.graph s l refl rings h.roots h.count

-- ---- edges are relabelled

met_rewritten-at : (side : Side) (l : List Atom) (m : EdgeMark) (o : Option EdgeSlot) (n : ℕ)
    → IsSomeAnd (option_map edge_of o) (λ d. end_of side d ≡ n) ↔ IsSomeAnd (option_map edge_of (option_map (rewritten_edge l m) o)) (λ d. end_of side d ≡ n)
met_rewritten-at side l m None n = (λ h. h, λ h. h)
met_rewritten-at Beginning l m (Some s) n = (λ h. h, λ h. h)
met_rewritten-at Ending l m (Some s) n = (λ h. h, λ h. h)

met_rewritten : (side : Side) (es : List (Option EdgeSlot)) (e : ℕ) (l : List Atom) (m : EdgeMark) (n k : ℕ) → Meets side es n k ↔ Meets side (changed_at (rewritten_edge l m) es e) n k
met_rewritten side es e l m n k =
    elim (cases_eq k e) [
      | inl is ↦ subst (λ i. Meets side es n i ↔ Meets side (changed_at (rewritten_edge l m) es e) n i) (sym is)
          (subst (λ o. Meets side es n e ↔ IsSomeAnd (option_map edge_of o) (λ d. end_of side d ≡ n)) (sym (changed_here (rewritten_edge l m) es e)) (met_rewritten-at side l m (slot_in es e) n))
      | inr ne ↦ subst (λ o. Meets side es n k ↔ IsSomeAnd (option_map edge_of o) (λ d. end_of side d ≡ n)) (sym (slot_other es e (option_map (rewritten_edge l m) (slot_in es e)) k ne)) (λ h. h, λ h. h)
    ]

link_rewritten : (side : Side) (l : List Atom) (m : EdgeMark) (o : Option EdgeSlot) → link_in side (option_map (rewritten_edge l m) o) ≡ link_in side o
link_rewritten side l m None = refl
link_rewritten Beginning l m (Some s) = refl
link_rewritten Ending l m (Some s) = refl

rings_rewritten_edge : (ns : List (Option NodeSlot)) (es : List (Option EdgeSlot)) (e : ℕ) (l : List Atom) (m : EdgeMark) → AllRings ns es → AllRings ns (changed_at (rewritten_edge l m) es e)
rings_rewritten_edge ns es e l m rings side =
    let es' = changed_at (rewritten_edge l m) es e in
    let same : (k : ℕ) → link_in side (slot_in es' k) ≡ link_in side (slot_in es k) = kept (link_in side) (rewritten_edge l m) (link_rewritten side l m) es e in
    rings_agree (first_of side ns) (count_of side ns) (next_of side es) (prev_of side es) (first_of side ns) (count_of side ns) (next_of side es') (prev_of side es') (Meets side es) (Meets side es') (rings side)
    (λ n. refl) (λ n. refl) (λ n k h. ap (λ x. x.next) (same k)) (λ n k h. ap (λ x. x.prev) (same k)) (met_rewritten side es e l m)

seen_edge-at : (ns : List (Option NodeSlot)) (es : List (Option EdgeSlot)) (e : ℕ) (l : List Atom) (m : EdgeMark) (o : Option EdgeSlot) → slot_in es e ≡ o → IsSome o → e < length es
    → graph_from ns (slice_set es e (option_map (rewritten_edge l m) o)) ≡ relabeled_edge (graph_from ns es) e l m
seen_edge-at ns es e l m None is h b = absurd cc
seen_edge-at ns es e l m (Some s) is h b =
    let g = graph_from ns es in
    set_edge ns es e (rewritten_edge l m s) b ∙ sym (ap (λ o. option_map_or (λ (d : Edge). with_edge_at g e (record d { label = l; mark = m })) o g) (seen_at edge_of es e ∙ ap (option_map edge_of) is))

pub seen_edge_rewritten : (ns : List (Option NodeSlot)) (es : List (Option EdgeSlot)) (e : ℕ) (l : List Atom) (m : EdgeMark) → IsSome (slot_in es e) → graph_from ns (changed_at (rewritten_edge l m) es e) ≡ relabeled_edge (graph_from ns es) e l m
seen_edge_rewritten ns es e l m h = seen_edge-at ns es e l m (slot_in es e) refl h (slot_within es e h)

pub held_edge_rewritten : (ns : List (Option NodeSlot)) (es : List (Option EdgeSlot)) (r : Ring) (c e : ℕ) (l : List Atom) (m : EdgeMark) → IsHeld ns es r c → IsSome (slot_in es e) → AreAtoms l → IsHeld ns (changed_at (rewritten_edge l m) es e) r c
held_edge_rewritten ns es r c e l m h there atoms = record {
  graph = subst IsGraph (sym (seen_edge_rewritten ns es e l m there)) (IsGraph-relabeled_edge (graph_from ns es) e l m h.graph atoms);
  rings = rings_rewritten_edge ns es e l m h.rings;
  roots = h.roots;
  count = h.count;
}

pub edge_seen : (ns : List (Option NodeSlot)) (es : List (Option EdgeSlot)) (e : ℕ) → IsSome (slot_in es e) → IsSome (edge_at (graph_from ns es) e)
edge_seen ns es e h = subst IsSome (sym (seen_at edge_of es e)) (some_kept edge_of (slot_in es e) h)

pub edge_rewritten_seen : (ns : List (Option NodeSlot)) (es : List (Option EdgeSlot)) (e : ℕ) (l : List Atom) (m : EdgeMark) → IsSome (slot_in es e) → IsSome (edge_at (graph_from ns (changed_at (rewritten_edge l m) es e)) e)
edge_rewritten_seen ns es e l m h = edge_seen ns (changed_at (rewritten_edge l m) es e) e (still_some (rewritten_edge l m) es e e h)

edge_label_was-at : (o : Option EdgeSlot) (l : List Atom) → option_map (λ (s : EdgeSlot). s.label) o ≡ Some l → IfSome (option_map edge_of o) (λ d. l ≡ d.label)
edge_label_was-at None l h = absurd cc
edge_label_was-at (Some s) l h = cc

pub edge_label_was : (ns : List (Option NodeSlot)) (es : List (Option EdgeSlot)) (e : ℕ) (l : List Atom) → option_map (λ (s : EdgeSlot). s.label) (slot_in es e) ≡ Some l → IfSome (edge_at (graph_from ns es) e) (λ d. l ≡ d.label)
edge_label_was ns es e l h = subst (λ o. IfSome o (λ d. l ≡ d.label)) (sym (seen_at edge_of es e)) (edge_label_was-at (slot_in es e) l h)

-- ---- nodes come, go and are relabelled: what is held before the links among the roots are mended

pub seen_kept : (base ns' : List (Option NodeSlot)) (es : List (Option EdgeSlot)) → KeepsNodes base ns' → length ns' ≡ length base → graph_from ns' es ≡ graph_from base es
seen_kept base ns' es k l = same_shown base ns' es es k.seen (λ n. refl) l refl

pub held_nodes : (base ns' : List (Option NodeSlot)) (es : List (Option EdgeSlot)) (r : Ring) (c : ℕ) (g : Graph) → graph_from base es ≡ g → IsGraph g → AllRings base es → KeepsNodes base ns' → length ns' ≡ length base → HasRoots r ns' → c ≡ node_count g → IsHeld ns' es r c
held_nodes base ns' es r c g is h rings k l roots count =
    let seen : graph_from ns' es ≡ g = seen_kept base ns' es k l ∙ is in
    record { graph = subst IsGraph (sym seen) h; rings = λ side. same_rings side base ns' es (k.rings side) (rings side); roots = roots; count = count ∙ ap node_count (sym seen) }

bare : (side : Side) (x : NodeSlot) → x.beginning ≡ record { first = 0; count = 0 } → x.ending ≡ record { first = 0; count = 0 } → ring_of side x ≡ record { first = 0; count = 0 }
bare Beginning x b e = b
bare Ending x b e = e

pub rings_node_added : (ns : List (Option NodeSlot)) (es : List (Option EdgeSlot)) (x : NodeSlot) → AllRings ns es → x.beginning ≡ record { first = 0; count = 0 } → x.ending ≡ record { first = 0; count = 0 } → AllRings (ns ++ Some x ∷ []) es
rings_node_added ns es x rings b e side = same_rings side ns (ns ++ Some x ∷ []) es (λ k. elim (cases_eq k (length ns)) [
  | inl is ↦ subst (λ i. ring_in side (slot_in (ns ++ Some x ∷ []) i) ≡ ring_in side (slot_in ns i)) (sym is)
      (ap (ring_in side) (slot_pushed ns (Some x)) ∙ bare side x b e ∙ ap (ring_in side) (sym (slot_past ns)))
  | inr ne ↦ ap (ring_in side) (slot_push_other ns (Some x) k ne)
]) (rings side)

pub rings_node_put : (ns : List (Option NodeSlot)) (es : List (Option EdgeSlot)) (n : ℕ) (x : NodeSlot) → n < length ns → slot_in ns n ≡ None → AllRings ns es → x.beginning ≡ record { first = 0; count = 0 } → x.ending ≡ record { first = 0; count = 0 } → AllRings (slice_set ns n (Some x)) es
rings_node_put ns es n x l none rings b e side = same_rings side ns (slice_set ns n (Some x)) es (λ k. elim (cases_eq k n) [
  | inl is ↦ subst (λ i. ring_in side (slot_in (slice_set ns n (Some x)) i) ≡ ring_in side (slot_in ns i)) (sym is)
      (ap (ring_in side) (slot_here ns n (Some x) l) ∙ bare side x b e ∙ ap (ring_in side) (sym none))
  | inr ne ↦ ap (ring_in side) (slot_other ns n (Some x) k ne)
]) (rings side)

lone : (side : Side) (g : Graph) (n e : ℕ) (o : Option Edge) → edge_at g e ≡ o → HasNoEdges g n → IsSomeAnd o (λ d. end_of side d ≡ n) → ⊥
lone side g n e None is none h = h
lone Beginning g n e (Some d) is none h = (none e d is).0 h
lone Ending g n e (Some d) is none h = (none e d is).1 h

pub rings_node_gone : (ns : List (Option NodeSlot)) (es : List (Option EdgeSlot)) (n : ℕ) → n < length ns → HasNoEdges (graph_from ns es) n → AllRings ns es → AllRings (slice_set ns n None) es
rings_node_gone ns es n l none rings side = gone_node side ns es n l (λ e m. lone side (graph_from ns es) n e (option_map edge_of (slot_in es e)) (seen_at edge_of es e) none m) (rings side)

pub rings_rewritten : (ns : List (Option NodeSlot)) (es : List (Option EdgeSlot)) (n : ℕ) (l : List Atom) (m : NodeMark) (t : Bool) → AllRings ns es → AllRings (changed_at (rewritten l m t) ns n) es
rings_rewritten ns es n l m t rings side = same_rings side ns (changed_at (rewritten l m t) ns n) es (kept (ring_in side) (rewritten l m t) (ring_rewritten side l m t) ns n) (rings side)

pub roots_added : (ns : List (Option NodeSlot)) (r : Ring) (x : NodeSlot) → HasRoots r ns → HasRootsBut r (ns ++ Some x ∷ []) (length ns)
roots_added ns r x h = roots_off r ns (ns ++ Some x ∷ []) (length ns) (slot_push_other ns (Some x)) (roots_but r ns (length ns) h (no_root ns (length ns) (slot_past ns)))

seen_rewritten-at : (ns : List (Option NodeSlot)) (es : List (Option EdgeSlot)) (n : ℕ) (l : List Atom) (m : NodeMark) (t : Bool) (o : Option NodeSlot) → IsSome o → n < length ns
    → graph_from (slice_set ns n (option_map (rewritten l m t) o)) es ≡ relabeled (graph_from ns es) n (record { label = l; mark = m; root = t })
seen_rewritten-at ns es n l m t None h b = absurd cc
seen_rewritten-at ns es n l m t (Some s) h b = set_node ns es n (rewritten l m t s) b

pub seen_rewritten : (ns : List (Option NodeSlot)) (es : List (Option EdgeSlot)) (n : ℕ) (l : List Atom) (m : NodeMark) (t : Bool) → IsSome (slot_in ns n) → graph_from (changed_at (rewritten l m t) ns n) es ≡ relabeled (graph_from ns es) n (record { label = l; mark = m; root = t })
seen_rewritten ns es n l m t h = seen_rewritten-at ns es n l m t (slot_in ns n) h (slot_within ns n h)

label_was-at : (o : Option Node) (l : List Atom) → option_map (λ (x : Node). x.label) o ≡ Some l → IfSome o (λ x. l ≡ x.label)
label_was-at None l h = absurd cc
label_was-at (Some s) l h = cc

pub label_was : (ns : List (Option NodeSlot)) (es : List (Option EdgeSlot)) (n : ℕ) (l : List Atom) → option_map (λ (x : Node). x.label) (option_map node_of (slot_in ns n)) ≡ Some l → IfSome (node_at (graph_from ns es) n) (λ x. l ≡ x.label)
label_was ns es n l h = subst (λ o. IfSome o (λ x. l ≡ x.label)) (sym (seen_at node_of ns n)) (label_was-at (option_map node_of (slot_in ns n)) l h)

-- ---- the last slot, where it is vacant, goes

slot_take : {X : Type 0} (xs : List (Option X)) (n k : ℕ) → length xs ≡ n + 1 → slot_in xs n ≡ None → slot_in (take n xs) k ≡ slot_in xs k
slot_take [] n k e h = absurd (omega arith)
slot_take (y ∷ []) zero zero e h = sym h
slot_take (y ∷ []) zero (suc k) e h = refl
slot_take (y ∷ z ∷ xs) zero k e h = absurd (omega arith)
slot_take (y ∷ xs) (suc n) zero e h = refl
slot_take (y ∷ xs) (suc n) (suc k) e h = slot_take xs n k (omega arith) h

pub slot_dropped : {X : Type 0} (xs : List (Option X)) → 0 < length xs → slot_in xs (length xs - 1) ≡ None → (k : ℕ) → slot_in (take (length xs - 1) xs) k ≡ slot_in xs k
slot_dropped xs some h k = slot_take xs (length xs - 1) k (omega arith) h

pub held_node_dropped : (ns : List (Option NodeSlot)) (es : List (Option EdgeSlot)) (r : Ring) (c : ℕ) → IsHeld ns es r c → 0 < length ns → node_at (graph_from ns es) (length ns - 1) ≡ None → IsHeld (take (length ns - 1) ns) es r c
held_node_dropped ns es r c h some vacant =
    let ns' = take (length ns - 1) ns in
    let same : (k : ℕ) → slot_in ns' k ≡ slot_in ns k = slot_dropped ns some (node_free ns es (length ns - 1) vacant) in
    let seen = dropped_node ns es some vacant in
    record {
      graph = subst IsGraph (sym seen) (IsGraph-without_node_number (graph_from ns es) h.graph vacant);
      rings = λ side. same_rings side ns ns' es (λ n. ap (ring_in side) (same n)) (h.rings side);
      roots = roots_kept r ns ns' (λ k. ap (option_map node_of) (same k)) (λ k. ap root_link (same k)) h.roots;
      count = h.count ∙ ap node_count (sym seen);
    }

met : (side : Side) (es es' : List (Option EdgeSlot)) (n k : ℕ) → slot_in es' k ≡ slot_in es k → Meets side es n k → Meets side es' n k
met side es es' n k e h = subst (λ o. IsSomeAnd (option_map edge_of o) (λ d. end_of side d ≡ n)) (sym e) h

same_edges : (side : Side) (ns : List (Option NodeSlot)) (es es' : List (Option EdgeSlot)) → ((k : ℕ) → slot_in es' k ≡ slot_in es k) → HasRings side ns es → HasRings side ns es'
same_edges side ns es es' same r =
    rings_agree (first_of side ns) (count_of side ns) (next_of side es) (prev_of side es) (first_of side ns) (count_of side ns) (next_of side es') (prev_of side es') (Meets side es) (Meets side es') r
    (λ n. refl) (λ n. refl) (λ n k h. ap (λ o. (link_in side o).next) (same k)) (λ n k h. ap (λ o. (link_in side o).prev) (same k))
    (λ n k. (met side es es' n k (same k), met side es' es n k (sym (same k))))

pub held_edge_dropped : (ns : List (Option NodeSlot)) (es : List (Option EdgeSlot)) (r : Ring) (c : ℕ) → IsHeld ns es r c → 0 < length es → edge_at (graph_from ns es) (length es - 1) ≡ None → IsHeld ns (take (length es - 1) es) r c
held_edge_dropped ns es r c h some vacant =
    let es' = take (length es - 1) es in
    let same : (k : ℕ) → slot_in es' k ≡ slot_in es k = slot_dropped es some (edge_free ns es (length es - 1) vacant) in
    let seen = dropped_edge ns es some vacant in
    record {
      graph = subst IsGraph (sym seen) (IsGraph-without_edge_number (graph_from ns es) h.graph vacant);
      rings = λ side. same_edges side ns es es' same (h.rings side);
      roots = h.roots;
      count = h.count ∙ ap node_count (sym seen);
    }

-- ---- nothing

pub held_nothing : IsHeld [] [] (record { first = 0; count = 0 }) 0
held_nothing = record { graph = subst IsGraph (sym nothing) IsGraph-empty; rings = no_rings; roots = no_roots; count = sym (ap node_count nothing ∙ len-empty nat_cmp Node) }

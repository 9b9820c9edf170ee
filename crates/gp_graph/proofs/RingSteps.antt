-- The bodies that let an edge enter and leave a ring.
use Rattle.std.proofs.Common.{inl, inr, ◌≡◌, ◌≢◌, ℕ, ◌+◌, ◌-◌, ◌<◌, ◌≤◌, List, ◌∷◌, length, refl, sym, ap, subst, ◌∙◌, arith}
use Rattle.std.specs.Prelude.{Contains, Option, Some, None, IsSome, IsSomeAnd}
use Rattle.std.specs.Option.{option_map}
use Rattle.std.proofs.lemmas.Bool.{cases_eq}
use Rattle.gp_memory.proofs.Basics.{first_or_later}
use Rattle.gp_values.specs.Graph.{Edge}
use Rattle.gp_graph.specs.inside.Slots.{slot_in}
use Rattle.gp_rings.specs.Chains.{Joins, follow}
use Rattle.gp_graph.specs.inside.View.{edge_of}
use Rattle.gp_graph.specs.inside.Rings.{other, end_of, link_in, ring_in, with_ring, changed_at, next_of, prev_of, first_of, count_of, Meets, HasRings, HasRingsBut, ShowSame, Keeps}
use Rattle.gp_rings.specs.declared.rings.Link.{Link}
use Rattle.gp_rings.specs.declared.rings.Ring.{Ring}
use Rattle.gp_graph.specs.declared.slots.NodeSlot.{NodeSlot}
use Rattle.gp_graph.specs.declared.slots.EdgeSlot.{EdgeSlot}
use Rattle.gp_graph.specs.declared.rings.Side.{Side}
use Rattle.gp_rings.proofs.Numbers.{apart_more, few}
use Rattle.gp_rings.proofs.Rounds.{next_round, prev_round, length-follow}
use Rattle.gp_rings.proofs.RingSets.{rings_push, rings_remove, rings_turn, last_there, first_there}
use Rattle.gp_graph.proofs.Links.{slot_within, ring_here, ring_elsewhere, ring_other_side, ring_seen, ring_roots}

one-at : (side : Side) (o : Option Edge) (j k : ℕ) → IsSomeAnd o (λ d. end_of side d ≡ j) → IsSomeAnd o (λ d. end_of side d ≡ k) → j ≡ k
one-at side None j k h i = absurd h
one-at side (Some d) j k h i = sym h ∙ i

-- an edge has one end
pub one_end : (side : Side) (es : List (Option EdgeSlot)) (j k e : ℕ) → Meets side es j e → Meets side es k e → j ≡ k
one_end side es j k e h i = one-at side (option_map edge_of (slot_in es e)) j k h i

there-at : (side : Side) (o : Option EdgeSlot) (n : ℕ) → IsSomeAnd (option_map edge_of o) (λ d. end_of side d ≡ n) → IsSome o
there-at side None n h = absurd h
there-at side (Some s) n h = refl

pub is_there : (side : Side) (es : List (Option EdgeSlot)) (n e : ℕ) → Meets side es n e → IsSome (slot_in es e)
is_there side es n e h = there-at side (slot_in es e) n h

pub met_same : (side : Side) (es es' : List (Option EdgeSlot)) (n e : ℕ) → ShowSame edge_of es es' → Meets side es n e → Meets side es' n e
met_same side es es' n e same h = subst (λ o. IsSomeAnd o (λ d. end_of side d ≡ n)) (sym (same e)) h

pub met_back : (side : Side) (es es' : List (Option EdgeSlot)) (n e : ℕ) → ShowSame edge_of es es' → Meets side es' n e → Meets side es n e
met_back side es es' n e same h = subst (λ o. IsSomeAnd o (λ d. end_of side d ≡ n)) (same e) h

some-at : {X Y : Type 0} (f : X → Y) (o p : Option X) → option_map f p ≡ option_map f o → IsSome o → IsSome p
some-at f None p e h = absurd cc
some-at f (Some x) None e h = absurd cc
some-at f (Some x) (Some y) e h = refl

pub still_there : {X Y : Type 0} (f : X → Y) (xs ys : List (Option X)) (k : ℕ) → ShowSame f xs ys → IsSome (slot_in xs k) → IsSome (slot_in ys k)
still_there f xs ys k same h = some-at f (slot_in xs k) (slot_in ys k) (same k) h

-- ---- entering

pub last_some : (side : Side) (ns : List (Option NodeSlot)) (es : List (Option EdgeSlot)) (n e l : ℕ) → Meets side es n e → HasRingsBut side ns es e
    → (count_of side ns n ≡ 0 → l ≡ e) → (count_of side ns n ≢ 0 → l ≡ prev_of side es (first_of side ns n)) → IsSome (slot_in es l)
last_some side ns es n e l m r none some =
    elim (cases_eq (count_of side ns n) 0) [
      | inl z ↦ subst (λ k. IsSome (slot_in es k)) (sym (none z)) (is_there side es n e m)
      | inr nz ↦ subst (λ k. IsSome (slot_in es k)) (sym (some nz))
          (let p = prev_of side es (first_of side ns n) in
          is_there side es n p (((r.walks n).each p).0 (last_there (next_of side es) (prev_of side es) (count_of side ns n) (first_of side ns n) nz (r.rounds n))).0)
    ]

pub first_some : (side : Side) (ns : List (Option NodeSlot)) (es : List (Option EdgeSlot)) (n e f : ℕ) → Meets side es n e → HasRingsBut side ns es e
    → (count_of side ns n ≡ 0 → f ≡ e) → (count_of side ns n ≢ 0 → f ≡ first_of side ns n) → IsSome (slot_in es f)
first_some side ns es n e f m r none some =
    elim (cases_eq (count_of side ns n) 0) [
      | inl z ↦ subst (λ k. IsSome (slot_in es k)) (sym (none z)) (is_there side es n e m)
      | inr nz ↦ subst (λ k. IsSome (slot_in es k)) (sym (some nz))
          (is_there side es n (first_of side ns n) (((r.walks n).each (first_of side ns n)).0 (first_there (next_of side es) (count_of side ns n) (first_of side ns n) nz)).0)
    ]

pub may_enter : (side : Side) (ns : List (Option NodeSlot)) (es : List (Option EdgeSlot)) (n e : ℕ) → Meets side es n e → HasRingsBut side ns es e → count_of side ns n + 1 ≤ length es
may_enter side ns es n e m r =
    let xs = follow (next_of side es) (count_of side ns n) (first_of side ns n) in
    let same : length xs ≡ count_of side ns n = length-follow (next_of side es) (count_of side ns n) (first_of side ns n) in
    let long : length (e ∷ xs) ≤ length es = few (e ∷ xs) (length es) (apart_more e xs (λ h. (((r.walks n).each e).0 h).1 refl) (r.walks n).once)
    (λ k h. elim (first_or_later e xs k h) [
      | inl is ↦ subst (λ i. i < length es) is (slot_within es e (is_there side es n e m))
      | inr there ↦ slot_within es k (is_there side es n k (((r.walks n).each k).0 there).0)
    ]) in
    omega arith

pub entered : (side : Side) (ns : List (Option NodeSlot)) (es es1 es2 : List (Option EdgeSlot)) (n e f l : ℕ) (r : Ring) → IsSome (slot_in ns n) → Meets side es n e → HasRingsBut side ns es e → r ≡ ring_in side (slot_in ns n)
    → (count_of side ns n ≡ 0 → (f ≡ e) × (l ≡ e)) → (count_of side ns n ≢ 0 → (f ≡ first_of side ns n) × (l ≡ prev_of side es (first_of side ns n)))
    → Joins (next_of side es) (prev_of side es) (next_of side es1) (prev_of side es1) l e → Joins (next_of side es1) (prev_of side es1) (next_of side es2) (prev_of side es2) e f → ShowSame edge_of es es2
    → HasRings side (changed_at (with_ring side (record { first = f; count = r.count + 1 })) ns n) es2
entered side ns es es1 es2 n e f l r node edge rings is none some j k same =
    let q : Ring = record { first = f; count = r.count + 1 } in
    let ns' = changed_at (with_ring side q) ns n in
    let at : ring_in side (slot_in ns' n) ≡ q = ring_here side q ns n node in
    let first : first_of side ns' n ≡ f = ap (λ x. x.first) at in
    rings_push (first_of side ns) (count_of side ns) (next_of side es) (prev_of side es) (first_of side ns') (count_of side ns') (next_of side es1) (prev_of side es1) (next_of side es2) (prev_of side es2)
    (λ i m. Meets side es i m × (m ≡ e → ⊥)) (Meets side es2) n e l rings
    (λ a b m h i. one_end side es a b m h.0 i.0)
    (λ i h. h.1 refl)
    (λ i m. (
      λ h. elim (cases_eq m e) [
        | inl me ↦ inr (one_end side es i n e (subst (Meets side es i) me (met_back side es es2 i m same h)) edge, me)
        | inr ne ↦ inl (met_back side es es2 i m same h, ne)
      ],
      λ h. elim h [
        | inl old ↦ met_same side es es2 i m same old.0
        | inr now ↦ met_same side es es2 i m same (subst (λ a. Meets side es a m) (sym now.0) (subst (Meets side es n) (sym now.1) edge))
      ],
    ))
    (λ z. (first ∙ (none z).0, (none z).1))
    (λ nz. (first ∙ (some nz).0, (some nz).1))
    (ap (λ x. x.count) at ∙ ap (λ x. x.count + 1) is)
    (λ i ne. ap (λ x. x.first) (ring_elsewhere side q ns n i ne))
    (λ i ne. ap (λ x. x.count) (ring_elsewhere side q ns n i ne))
    j
    (subst (Joins (next_of side es1) (prev_of side es1) (next_of side es2) (prev_of side es2) e) (sym first) k)

-- ---- turning and leaving

pub in_ring : (side : Side) (ns : List (Option NodeSlot)) (es : List (Option EdgeSlot)) (n e : ℕ) → Meets side es n e → HasRings side ns es → Contains (follow (next_of side es) (count_of side ns n) (first_of side ns n)) e
in_ring side ns es n e m r = ((r.walks n).each e).1 m

met_node-at : (nx : ℕ → ℕ) (side : Side) (o : Option NodeSlot) (e : ℕ) → Contains (follow nx (ring_in side o).count (ring_in side o).first) e → IsSome o
met_node-at nx side None e h = let l = h.1 in absurd (omega arith)
met_node-at nx side (Some s) e h = refl

-- the end of an edge is there
pub met_node : (side : Side) (ns : List (Option NodeSlot)) (es : List (Option EdgeSlot)) (n e : ℕ) → Meets side es n e → HasRings side ns es → IsSome (slot_in ns n)
met_node side ns es n e m r = met_node-at (next_of side es) side (slot_in ns n) e (in_ring side ns es n e m r)

-- a node's slot, where its ring begins at this edge
abbrev pub begun : Side → List (Option NodeSlot) → ℕ → ℕ → List (Option NodeSlot)
begun side ns n e = changed_at (with_ring side (record { first = e; count = count_of side ns n })) ns n

pub turned : (side : Side) (ns : List (Option NodeSlot)) (es : List (Option EdgeSlot)) (n e : ℕ) → Meets side es n e → HasRings side ns es → HasRings side (begun side ns n e) es
turned side ns es n e edge rings =
    let q : Ring = record { first = e; count = count_of side ns n } in
    let ns' = begun side ns n e in
    let at : ring_in side (slot_in ns' n) ≡ q = ring_here side q ns n (met_node side ns es n e edge rings) in
    rings_turn (first_of side ns) (count_of side ns) (next_of side es) (prev_of side es) (first_of side ns') (count_of side ns') (Meets side es) n e rings edge
    (ap (λ x. x.first) at)
    (ap (λ x. x.count) at)
    (λ i ne. ap (λ x. x.first) (ring_elsewhere side q ns n i ne))
    (λ i ne. ap (λ x. x.count) (ring_elsewhere side q ns n i ne))

pub prev_some : (side : Side) (ns : List (Option NodeSlot)) (es : List (Option EdgeSlot)) (n e : ℕ) (link : Link) → Meets side es n e → HasRings side ns es → link ≡ link_in side (slot_in es e) → IsSome (slot_in es link.prev)
prev_some side ns es n e link m r is =
    let p = prev_of side es e in
    subst (λ x. IsSome (slot_in es x.prev)) (sym is)
    (is_there side es n p (((r.walks n).each p).0 (prev_round (next_of side es) (prev_of side es) (follow (next_of side es) (count_of side ns n) (first_of side ns n)) e (in_ring side ns es n e m r) (r.rounds n))))

-- the edge behind one has the same end
pub next_met : (side : Side) (ns : List (Option NodeSlot)) (es : List (Option EdgeSlot)) (n e : ℕ) (link : Link) → Meets side es n e → HasRings side ns es → link ≡ link_in side (slot_in es e) → Meets side es n link.next
next_met side ns es n e link m r is =
    subst (λ x. Meets side es n x.next) (sym is)
    (((r.walks n).each (next_of side es e)).0 (next_round (next_of side es) (prev_of side es) (follow (next_of side es) (count_of side ns n) (first_of side ns n)) e (in_ring side ns es n e m r) (r.rounds n)))

pub next_some : (side : Side) (ns : List (Option NodeSlot)) (es : List (Option EdgeSlot)) (n e : ℕ) (link : Link) → Meets side es n e → HasRings side ns es → link ≡ link_in side (slot_in es e) → IsSome (slot_in es link.next)
next_some side ns es n e link m r is = is_there side es n link.next (next_met side ns es n e link m r is)

pub may_leave : (side : Side) (ns : List (Option NodeSlot)) (es : List (Option EdgeSlot)) (n e : ℕ) (q : Ring) → Meets side es n e → HasRings side ns es → q ≡ ring_in side (slot_in ns n) → 1 ≤ q.count
may_leave side ns es n e q m r is =
    let h = in_ring side ns es n e m r in
    let b : h.0 < length (follow (next_of side es) (count_of side ns n) (first_of side ns n)) = h.1 in
    let same = length-follow (next_of side es) (count_of side ns n) (first_of side ns n) in
    let c : q.count ≡ count_of side ns n = ap (λ x. x.count) is in
    omega (arith, same)

pub left : (side : Side) (ns : List (Option NodeSlot)) (es es' : List (Option EdgeSlot)) (n e : ℕ) (r : Ring) (link : Link) → IsSome (slot_in ns n) → Meets side es n e → HasRings side ns es → r ≡ ring_in side (slot_in ns n) → link ≡ link_in side (slot_in es e)
    → Joins (next_of side es) (prev_of side es) (next_of side es') (prev_of side es') link.prev link.next → ShowSame edge_of es es'
    → HasRingsBut side (changed_at (with_ring side (record { first = link.next; count = r.count - 1 })) ns n) es' e
left side ns es es' n e r link node edge rings is lis j same =
    let p : Ring = record { first = e; count = count_of side ns n } in
    let q : Ring = record { first = link.next; count = r.count - 1 } in
    let mid = begun side ns n e in
    let ns' = changed_at (with_ring side q) ns n in
    let begins : ring_in side (slot_in mid n) ≡ p = ring_here side p ns n node in
    let at : ring_in side (slot_in ns' n) ≡ q = ring_here side q ns n node in
    let apart : (i : ℕ) → i ≢ n → ring_in side (slot_in ns' i) ≡ ring_in side (slot_in mid i) = λ i ne. ring_elsewhere side q ns n i ne ∙ sym (ring_elsewhere side p ns n i ne) in
    rings_remove (first_of side mid) (count_of side mid) (next_of side es) (prev_of side es) (first_of side ns') (count_of side ns') (next_of side es') (prev_of side es')
    (Meets side es) (λ i m. Meets side es' i m × (m ≡ e → ⊥)) n e (turned side ns es n e edge rings)
    (one_end side es)
    edge
    (λ i m. (λ h. (met_back side es es' i m same h.0, h.1), λ h. (met_same side es es' i m same h.0, h.1)))
    (λ h. ap (λ x. x.first) at ∙ ap (λ x. x.next) lis)
    (λ h. absurd (h (ap (λ x. x.first) begins)))
    (ap (λ x. x.count) at ∙ ap (λ x. x.count - 1) is ∙ sym (ap (λ x. x.count - 1) begins))
    (λ i ne. ap (λ x. x.first) (apart i ne))
    (λ i ne. ap (λ x. x.count) (apart i ne))
    (subst (λ x. Joins (next_of side es) (prev_of side es) (next_of side es') (prev_of side es') x.prev x.next) lis j)

pub keeps : (side : Side) (ns : List (Option NodeSlot)) (es es' : List (Option EdgeSlot)) (n : ℕ) (q : Ring) → ShowSame edge_of es es' → ((e : ℕ) → link_in (other side) (slot_in es' e) ≡ link_in (other side) (slot_in es e))
    → Keeps side ns es (changed_at (with_ring side q) ns n) es'
keeps side ns es es' n q same links = record { nodes = ring_seen side q ns n; edges = same; rings = ring_other_side side q ns n; links = links; roots = ring_roots side q ns n }

-- What a change of one slot makes of links and rings.
use Rattle.std.proofs.Common.{inl, inr, ◌≡◌, ◌≢◌, ℕ, zero, suc, ◌<◌, List, [], ◌∷◌, length, refl, sym, ap, subst, ◌∙◌, arith}
use Rattle.std.specs.Prelude.{Option, Some, None, IsSome, slice_set}
use Rattle.std.specs.Option.{option_map}
use Rattle.std.proofs.lemmas.Bool.{cases_eq}
use Rattle.gp_graph.specs.inside.Slots.{slot_in}
use Rattle.gp_rings.specs.Chains.{Joins}
use Rattle.gp_graph.specs.inside.View.{node_of, edge_of}
use Rattle.gp_graph.specs.inside.Rings.{other, link_in, ring_in, with_next, with_prev, with_ring, changed_at, next_of, prev_of, root_link}
use Rattle.gp_rings.specs.declared.rings.Ring.{Ring}
use Rattle.gp_graph.specs.declared.slots.NodeSlot.{NodeSlot}
use Rattle.gp_graph.specs.declared.slots.EdgeSlot.{EdgeSlot}
use Rattle.gp_graph.specs.declared.rings.Side.{Side}
use Rattle.gp_graph.specs.declared.rings.Side.TheVariants.{Beginning, Ending}

pub slot_other : {X : Type 0} (xs : List (Option X)) (p : ℕ) (o : Option X) (k : ℕ) → k ≢ p → slot_in (slice_set xs p o) k ≡ slot_in xs k
slot_other [] p o k ne = refl
slot_other (x ∷ xs) zero o zero ne = absurd (ne refl)
slot_other (x ∷ xs) zero o (suc k) ne = refl
slot_other (x ∷ xs) (suc p) o zero ne = refl
slot_other (x ∷ xs) (suc p) o (suc k) ne = slot_other xs p o k (λ e. ne (ap suc e))

pub slot_here : {X : Type 0} (xs : List (Option X)) (p : ℕ) (o : Option X) → p < length xs → slot_in (slice_set xs p o) p ≡ o
slot_here [] p o l = absurd (omega arith)
slot_here (x ∷ xs) zero o l = refl
slot_here (x ∷ xs) (suc p) o l = slot_here xs p o (omega arith)

pub changed_here : {X : Type 0} (f : X → X) (xs : List (Option X)) (p : ℕ) → slot_in (changed_at f xs p) p ≡ option_map f (slot_in xs p)
changed_here f [] p = refl
changed_here f (x ∷ xs) zero = refl
changed_here f (x ∷ xs) (suc p) = changed_here f xs p

pub slot_within : {X : Type 0} (xs : List (Option X)) (k : ℕ) → IsSome (slot_in xs k) → k < length xs
slot_within [] k h = absurd cc
slot_within (x ∷ xs) zero h = omega arith
slot_within (x ∷ xs) (suc k) h = let l : k < length xs = slot_within xs k h in omega arith

-- what a change does not touch is the same at each place
pub kept : {X Y : Type 0} (see : Option X → Y) (f : X → X) → ((o : Option X) → see (option_map f o) ≡ see o) → (xs : List (Option X)) (p k : ℕ) → see (slot_in (changed_at f xs p) k) ≡ see (slot_in xs k)
kept see f same xs p k =
    elim (cases_eq k p) [
      | inl e ↦ subst (λ n. see (slot_in (changed_at f xs p) n) ≡ see (slot_in xs n)) (sym e) (ap see (changed_here f xs p) ∙ same (slot_in xs p))
      | inr ne ↦ ap see (slot_other xs p (option_map f (slot_in xs p)) k ne)
    ]

pub next_kept : (side : Side) (v : ℕ) (o : Option EdgeSlot) → (link_in side (option_map (with_prev side v) o)).next ≡ (link_in side o).next
next_kept side v None = refl
next_kept Beginning v (Some s) = refl
next_kept Ending v (Some s) = refl

pub prev_kept : (side : Side) (v : ℕ) (o : Option EdgeSlot) → (link_in side (option_map (with_next side v) o)).prev ≡ (link_in side o).prev
prev_kept side v None = refl
prev_kept Beginning v (Some s) = refl
prev_kept Ending v (Some s) = refl

pub next_new : (side : Side) (v : ℕ) (o : Option EdgeSlot) → IsSome o → (link_in side (option_map (with_next side v) o)).next ≡ v
next_new side v None h = absurd cc
next_new Beginning v (Some s) h = refl
next_new Ending v (Some s) h = refl

pub prev_new : (side : Side) (v : ℕ) (o : Option EdgeSlot) → IsSome o → (link_in side (option_map (with_prev side v) o)).prev ≡ v
prev_new side v None h = absurd cc
prev_new Beginning v (Some s) h = refl
prev_new Ending v (Some s) h = refl

other_next : (side : Side) (v : ℕ) (o : Option EdgeSlot) → link_in (other side) (option_map (with_next side v) o) ≡ link_in (other side) o
other_next Beginning v None = refl
other_next Ending v None = refl
other_next Beginning v (Some s) = refl
other_next Ending v (Some s) = refl

other_prev : (side : Side) (v : ℕ) (o : Option EdgeSlot) → link_in (other side) (option_map (with_prev side v) o) ≡ link_in (other side) o
other_prev Beginning v None = refl
other_prev Ending v None = refl
other_prev Beginning v (Some s) = refl
other_prev Ending v (Some s) = refl

seen_next : (side : Side) (v : ℕ) (o : Option EdgeSlot) → option_map edge_of (option_map (with_next side v) o) ≡ option_map edge_of o
seen_next side v None = refl
seen_next Beginning v (Some s) = refl
seen_next Ending v (Some s) = refl

seen_prev : (side : Side) (v : ℕ) (o : Option EdgeSlot) → option_map edge_of (option_map (with_prev side v) o) ≡ option_map edge_of o
seen_prev side v None = refl
seen_prev Beginning v (Some s) = refl
seen_prev Ending v (Some s) = refl

ring_new : (side : Side) (r : Ring) (o : Option NodeSlot) → IsSome o → ring_in side (option_map (with_ring side r) o) ≡ r
ring_new side r None h = absurd cc
ring_new Beginning r (Some s) h = refl
ring_new Ending r (Some s) h = refl

other_ring : (side : Side) (r : Ring) (o : Option NodeSlot) → ring_in (other side) (option_map (with_ring side r) o) ≡ ring_in (other side) o
other_ring Beginning r None = refl
other_ring Ending r None = refl
other_ring Beginning r (Some s) = refl
other_ring Ending r (Some s) = refl

seen_ring : (side : Side) (r : Ring) (o : Option NodeSlot) → option_map node_of (option_map (with_ring side r) o) ≡ option_map node_of o
seen_ring side r None = refl
seen_ring Beginning r (Some s) = refl
seen_ring Ending r (Some s) = refl

root_same : (side : Side) (r : Ring) (o : Option NodeSlot) → root_link (option_map (with_ring side r) o) ≡ root_link o
root_same side r None = refl
root_same Beginning r (Some s) = refl
root_same Ending r (Some s) = refl

-- ---- joining two edges

abbrev pub joined : Side → List (Option EdgeSlot) → ℕ → ℕ → List (Option EdgeSlot)
joined side es from to = changed_at (with_prev side from) (changed_at (with_next side to) es from) to

pub some_kept : {X Y : Type 0} (f : X → Y) (o : Option X) → IsSome o → IsSome (option_map f o)
some_kept f None h = absurd cc
some_kept f (Some x) h = refl

pub still_some : {X : Type 0} (f : X → X) (xs : List (Option X)) (p k : ℕ) → IsSome (slot_in xs k) → IsSome (slot_in (changed_at f xs p) k)
still_some f xs p k h =
    elim (cases_eq k p) [
      | inl e ↦ subst (λ n. IsSome (slot_in (changed_at f xs p) n)) (sym e) (subst IsSome (sym (changed_here f xs p)) (some_kept f (slot_in xs p) (subst (λ n. IsSome (slot_in xs n)) e h)))
      | inr ne ↦ subst IsSome (sym (slot_other xs p (option_map f (slot_in xs p)) k ne)) h
    ]

pub joins : (side : Side) (es : List (Option EdgeSlot)) (from to : ℕ) → IsSome (slot_in es from) → IsSome (slot_in es to) → Joins (next_of side es) (prev_of side es) (next_of side (joined side es from to)) (prev_of side (joined side es from to)) from to
joins side es from to f t =
    let mid = changed_at (with_next side to) es from in
    let next_same = kept (λ o. (link_in side o).next) (with_prev side from) (next_kept side from) mid to in
    let prev_same = kept (λ o. (link_in side o).prev) (with_next side to) (prev_kept side to) es from in
    record {
      next_at = next_same from ∙ ap (λ o. (link_in side o).next) (changed_here (with_next side to) es from) ∙ next_new side to (slot_in es from) f;
      prev_at = ap (λ o. (link_in side o).prev) (changed_here (with_prev side from) mid to) ∙ prev_new side from (slot_in mid to) (still_some (with_next side to) es from to t);
      next_other = λ k ne. next_same k ∙ ap (λ o. (link_in side o).next) (slot_other es from (option_map (with_next side to) (slot_in es from)) k ne);
      prev_other = λ k ne. ap (λ o. (link_in side o).prev) (slot_other mid to (option_map (with_prev side from) (slot_in mid to)) k ne) ∙ prev_same k;
    }

pub joined_links : (side : Side) (es : List (Option EdgeSlot)) (from to k : ℕ) → link_in (other side) (slot_in (joined side es from to) k) ≡ link_in (other side) (slot_in es k)
joined_links side es from to k = kept (link_in (other side)) (with_prev side from) (other_prev side from) (changed_at (with_next side to) es from) to k ∙ kept (link_in (other side)) (with_next side to) (other_next side to) es from k

pub joined_seen : (side : Side) (es : List (Option EdgeSlot)) (from to k : ℕ) → option_map edge_of (slot_in (joined side es from to) k) ≡ option_map edge_of (slot_in es k)
joined_seen side es from to k = kept (option_map edge_of) (with_prev side from) (seen_prev side from) (changed_at (with_next side to) es from) to k ∙ kept (option_map edge_of) (with_next side to) (seen_next side to) es from k

-- ---- giving a node another ring

pub ring_here : (side : Side) (r : Ring) (ns : List (Option NodeSlot)) (n : ℕ) → IsSome (slot_in ns n) → ring_in side (slot_in (changed_at (with_ring side r) ns n) n) ≡ r
ring_here side r ns n h = ap (ring_in side) (changed_here (with_ring side r) ns n) ∙ ring_new side r (slot_in ns n) h

pub ring_elsewhere : (side : Side) (r : Ring) (ns : List (Option NodeSlot)) (n k : ℕ) → k ≢ n → ring_in side (slot_in (changed_at (with_ring side r) ns n) k) ≡ ring_in side (slot_in ns k)
ring_elsewhere side r ns n k ne = ap (ring_in side) (slot_other ns n (option_map (with_ring side r) (slot_in ns n)) k ne)

pub ring_other_side : (side : Side) (r : Ring) (ns : List (Option NodeSlot)) (n k : ℕ) → ring_in (other side) (slot_in (changed_at (with_ring side r) ns n) k) ≡ ring_in (other side) (slot_in ns k)
ring_other_side side r ns n k = kept (ring_in (other side)) (with_ring side r) (other_ring side r) ns n k

pub ring_seen : (side : Side) (r : Ring) (ns : List (Option NodeSlot)) (n k : ℕ) → option_map node_of (slot_in (changed_at (with_ring side r) ns n) k) ≡ option_map node_of (slot_in ns k)
ring_seen side r ns n k = kept (option_map node_of) (with_ring side r) (seen_ring side r) ns n k

pub ring_roots : (side : Side) (r : Ring) (ns : List (Option NodeSlot)) (n k : ℕ) → root_link (slot_in (changed_at (with_ring side r) ns n) k) ≡ root_link (slot_in ns k)
ring_roots side r ns n k = kept root_link (with_ring side r) (root_same side r) ns n k

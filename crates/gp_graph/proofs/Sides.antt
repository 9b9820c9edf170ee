-- Rings of both sides through the calls of a graph.
use Rattle.std.proofs.Common.{inl, inr, ◌≡◌, ◌≢◌, ℕ, zero, suc, ◌<◌, List, [], ◌∷◌, ◌++◌, length, refl, sym, ap, subst, ◌∙◌, arith}
use Rattle.std.specs.Prelude.{Option, None, IsSomeAnd, slice_set}
use Rattle.std.specs.Option.{option_map}
use Rattle.std.proofs.lemmas.Bool.{cases_eq}
use Rattle.gp_values.proofs.Graphs.{same_graph}
use Rattle.gp_graph.specs.inside.Slots.{slot_in}
use Rattle.gp_graph.specs.Walks.{Walks}
use Rattle.gp_rings.specs.Chains.{Begins, follow}
use Rattle.gp_graph.specs.inside.View.{node_of, edge_of, graph_from}
use Rattle.gp_graph.specs.inside.Rings.{other, end_of, link_in, ring_in, next_of, prev_of, first_of, count_of, Meets, HasRings, HasRingsBut, ShowSame, Keeps, AllRings, ShowsSame}
use Rattle.gp_graph.specs.declared.slots.NodeSlot.{NodeSlot}
use Rattle.gp_graph.specs.declared.slots.EdgeSlot.{EdgeSlot}
use Rattle.gp_graph.specs.declared.rings.Side.{Side}
use Rattle.gp_graph.specs.declared.rings.Side.TheVariants.{Beginning, Ending}
use Rattle.gp_graph.proofs.SlotMaps.{seen_at}
use Rattle.gp_rings.proofs.RingSets.{rings_agree, rings_by, begins_follow}
use Rattle.gp_graph.proofs.Links.{slot_other, slot_here}
use Rattle.gp_graph.proofs.RingSteps.{met_same, met_back, begun, turned, keeps}

pub same_shown : (ns ns' : List (Option NodeSlot)) (es es' : List (Option EdgeSlot)) → ShowSame node_of ns ns' → ShowSame edge_of es es' → length ns' ≡ length ns → length es' ≡ length es → graph_from ns' es' ≡ graph_from ns es
same_shown ns ns' es es' n e ln le =
    same_graph (graph_from ns' es') (graph_from ns es)
    (λ k. seen_at node_of ns' k ∙ n k ∙ sym (seen_at node_of ns k))
    (λ k. seen_at edge_of es' k ∙ e k ∙ sym (seen_at edge_of es k))
    ln le

pub kept_rings : (side : Side) (ns : List (Option NodeSlot)) (es : List (Option EdgeSlot)) (ns' : List (Option NodeSlot)) (es' : List (Option EdgeSlot)) → Keeps side ns es ns' es' → HasRings (other side) ns es → HasRings (other side) ns' es'
kept_rings side ns es ns' es' k r =
    let o = other side in
    rings_agree (first_of o ns) (count_of o ns) (next_of o es) (prev_of o es) (first_of o ns') (count_of o ns') (next_of o es') (prev_of o es') (Meets o es) (Meets o es') r
    (λ n. ap (λ x. x.first) (k.rings n)) (λ n. ap (λ x. x.count) (k.rings n)) (λ n e h. ap (λ x. x.next) (k.links e)) (λ n e h. ap (λ x. x.prev) (k.links e))
    (λ n e. (met_same o es es' n e k.edges, met_back o es es' n e k.edges))

pub kept_but : (side : Side) (ns : List (Option NodeSlot)) (es : List (Option EdgeSlot)) (ns' : List (Option NodeSlot)) (es' : List (Option EdgeSlot)) (x : ℕ) → Keeps side ns es ns' es' → HasRingsBut (other side) ns es x → HasRingsBut (other side) ns' es' x
kept_but side ns es ns' es' x k r =
    let o = other side in
    rings_agree (first_of o ns) (count_of o ns) (next_of o es) (prev_of o es) (first_of o ns') (count_of o ns') (next_of o es') (prev_of o es') (λ n e. Meets o es n e × (e ≡ x → ⊥)) (λ n e. Meets o es' n e × (e ≡ x → ⊥)) r
    (λ n. ap (λ x. x.first) (k.rings n)) (λ n. ap (λ x. x.count) (k.rings n)) (λ n e h. ap (λ x. x.next) (k.links e)) (λ n e h. ap (λ x. x.prev) (k.links e))
    (λ n e. (λ h. (met_same o es es' n e k.edges h.0, h.1), λ h. (met_back o es es' n e k.edges h.0, h.1)))

pub both_rings : (ns : List (Option NodeSlot)) (es : List (Option EdgeSlot)) → HasRings Beginning ns es → HasRings Ending ns es → (side : Side) → HasRings side ns es
both_rings ns es b e Beginning = b
both_rings ns es b e Ending = e

pub both_but : (ns : List (Option NodeSlot)) (es : List (Option EdgeSlot)) (x : ℕ) → HasRingsBut Beginning ns es x → HasRingsBut Ending ns es x → (side : Side) → HasRingsBut side ns es x
both_but ns es x b e Beginning = b
both_but ns es x b e Ending = e

-- both rings of an edge begin elsewhere
pub both_turned : (ns ns1 ns2 : List (Option NodeSlot)) (es : List (Option EdgeSlot)) (source target f g : ℕ) → Meets Beginning es source f → Meets Ending es target g → AllRings ns es → ns1 ≡ begun Beginning ns source f → ns2 ≡ begun Ending ns1 target g → AllRings ns2 es × ShowsSame ns es ns2 es
both_turned ns ns1 ns2 es source target f g b t r e1 e2 =
    let keeps1 : Keeps Beginning ns es ns1 es = subst (λ xs. Keeps Beginning ns es xs es) (sym e1) (keeps Beginning ns es es source (record { first = f; count = count_of Beginning ns source }) (λ k. refl) (λ k. refl)) in
    let keeps2 : Keeps Ending ns1 es ns2 es = subst (λ xs. Keeps Ending ns1 es xs es) (sym e2) (keeps Ending ns1 es es target (record { first = g; count = count_of Ending ns1 target }) (λ k. refl) (λ k. refl)) in
    let beginning : HasRings Beginning ns1 es = subst (λ xs. HasRings Beginning xs es) (sym e1) (turned Beginning ns es source f b (r Beginning)) in
    let ending : HasRings Ending ns2 es = subst (λ xs. HasRings Ending xs es) (sym e2) (turned Ending ns1 es target g t (kept_rings Beginning ns es ns1 es keeps1 (r Ending))) in (
      both_rings ns2 es (kept_rings Ending ns1 es ns2 es keeps2 beginning) ending,
      record { nodes = λ k. keeps2.nodes k ∙ keeps1.nodes k; edges = λ k. refl; roots = λ k. keeps2.roots k ∙ keeps1.roots k },
    )

-- slots that differ at one place at most
abbrev pub Off : List (Option EdgeSlot) → List (Option EdgeSlot) → ℕ → Type 0
Off es es' x = (k : ℕ) → k ≢ x → slot_in es' k ≡ slot_in es k

not_met : (side : Side) (es : List (Option EdgeSlot)) (n x : ℕ) → slot_in es x ≡ None → Meets side es n x → ⊥
not_met side es n x none h = subst (λ o. IsSomeAnd (option_map edge_of o) (λ d. end_of side d ≡ n)) none h

met_off : (side : Side) (es es' : List (Option EdgeSlot)) (n k : ℕ) → slot_in es' k ≡ slot_in es k → Meets side es n k → Meets side es' n k
met_off side es es' n k e h = subst (λ o. IsSomeAnd (option_map edge_of o) (λ d. end_of side d ≡ n)) (sym e) h

-- an edge is new at a place that was free: the rings hold all others
pub taken : (side : Side) (ns : List (Option NodeSlot)) (es es' : List (Option EdgeSlot)) (x : ℕ) → Off es es' x → slot_in es x ≡ None → HasRings side ns es → HasRingsBut side ns es' x
taken side ns es es' x off none r =
    let apart : (n k : ℕ) → Meets side es n k → k ≢ x = λ n k h e. not_met side es n x none (subst (Meets side es n) e h) in
    rings_agree (first_of side ns) (count_of side ns) (next_of side es) (prev_of side es) (first_of side ns) (count_of side ns) (next_of side es') (prev_of side es') (Meets side es) (λ n e. Meets side es' n e × (e ≡ x → ⊥)) r
    (λ n. refl) (λ n. refl) (λ n k h. ap (λ o. (link_in side o).next) (off k (apart n k h))) (λ n k h. ap (λ o. (link_in side o).prev) (off k (apart n k h)))
    (λ n k. (λ h. (met_off side es es' n k (off k (apart n k h)) h, apart n k h), λ h. met_off side es' es n k (sym (off k h.1)) h.0))

-- an edge that no ring holds goes: the rings hold all that are left
pub freed : (side : Side) (ns : List (Option NodeSlot)) (es es' : List (Option EdgeSlot)) (x : ℕ) → Off es es' x → slot_in es' x ≡ None → HasRingsBut side ns es x → HasRings side ns es'
freed side ns es es' x off none r =
    let apart : (n k : ℕ) → Meets side es' n k → k ≢ x = λ n k h e. not_met side es' n x none (subst (Meets side es' n) e h) in
    rings_agree (first_of side ns) (count_of side ns) (next_of side es) (prev_of side es) (first_of side ns) (count_of side ns) (next_of side es') (prev_of side es') (λ n e. Meets side es n e × (e ≡ x → ⊥)) (Meets side es') r
    (λ n. refl) (λ n. refl) (λ n k h. ap (λ o. (link_in side o).next) (off k h.1)) (λ n k h. ap (λ o. (link_in side o).prev) (off k h.1))
    (λ n k. (λ h. met_off side es es' n k (off k h.1) h.0, λ h. (met_off side es' es n k (sym (off k (apart n k h))) h, apart n k h)))

pub slot_past : {X : Type 0} (xs : List (Option X)) → slot_in xs (length xs) ≡ None
slot_past [] = refl
slot_past (x ∷ xs) = slot_past xs

pub slot_pushed : {X : Type 0} (xs : List (Option X)) (o : Option X) → slot_in (xs ++ o ∷ []) (length xs) ≡ o
slot_pushed [] o = refl
slot_pushed (x ∷ xs) o = slot_pushed xs o

past_one : {X : Type 0} (o : Option X) (k : ℕ) → k ≢ 0 → slot_in (o ∷ []) k ≡ None
past_one o zero ne = absurd (ne refl)
past_one o (suc k) ne = refl

pub slot_push_other : {X : Type 0} (xs : List (Option X)) (o : Option X) (k : ℕ) → k ≢ length xs → slot_in (xs ++ o ∷ []) k ≡ slot_in xs k
slot_push_other [] o k ne = past_one o k ne
slot_push_other (x ∷ xs) o zero ne = refl
slot_push_other (x ∷ xs) o (suc k) ne = slot_push_other xs o k (λ e. ne (ap suc e))

-- rings stay where each node's is the same
pub same_rings : (side : Side) (ns ns' : List (Option NodeSlot)) (es : List (Option EdgeSlot)) → ((n : ℕ) → ring_in side (slot_in ns' n) ≡ ring_in side (slot_in ns n)) → HasRings side ns es → HasRings side ns' es
same_rings side ns ns' es same r =
    rings_agree (first_of side ns) (count_of side ns) (next_of side es) (prev_of side es) (first_of side ns') (count_of side ns') (next_of side es) (prev_of side es) (Meets side es) (Meets side es) r
    (λ n. ap (λ x. x.first) (same n)) (λ n. ap (λ x. x.count) (same n)) (λ n e h. refl) (λ n e h. refl) (λ n e. (λ h. h, λ h. h))

empty_walk : (xs : List ℕ) (P : ℕ → Type 0) → Walks xs P → ((k : ℕ) → P k → ⊥) → xs ≡ []
empty_walk [] P w none = refl
empty_walk (x ∷ xs) P w none = absurd (none x ((w.each x).0 (0, omega arith, refl)))

-- a node without edges goes
pub gone_node : (side : Side) (ns : List (Option NodeSlot)) (es : List (Option EdgeSlot)) (n : ℕ) → n < length ns → ((e : ℕ) → Meets side es n e → ⊥) → HasRings side ns es → HasRings side (slice_set ns n None) es
gone_node side ns es n l none r =
    let ns' = slice_set ns n None in
    let here_ : slot_in ns' n ≡ None = slot_here ns n None l in
    let empty : follow (next_of side es) (count_of side ns n) (first_of side ns n) ≡ [] = empty_walk (follow (next_of side es) (count_of side ns n) (first_of side ns n)) (Meets side es n) (r.walks n) none in
    rings_by (first_of side ns') (count_of side ns') (next_of side es) (prev_of side es) (Meets side es) (λ k. elim (cases_eq k n) [
      | inl e ↦ (
        [],
        ap (λ i. count_of side ns' i) e ∙ ap (λ o. (ring_in side o).count) here_,
        tt,
        subst (λ i. Walks [] (Meets side es i)) (sym e) (subst (λ xs. Walks xs (Meets side es n)) empty (r.walks n)),
      )
      | inr ne ↦
          let same : ring_in side (slot_in ns' k) ≡ ring_in side (slot_in ns k) = ap (ring_in side) (slot_other ns n None k ne) in (
            follow (next_of side es) (count_of side ns k) (first_of side ns k),
            subst (λ q. Begins q.first q.count (follow (next_of side es) (count_of side ns k) (first_of side ns k))) (sym same) (begins_follow (next_of side es) (count_of side ns k) (first_of side ns k)),
            r.rounds k,
            r.walks k,
          )
    ])

pub no_rings : (side : Side) → HasRings side [] []
no_rings side = rings_by (first_of side []) (count_of side []) (next_of side []) (prev_of side []) (Meets side []) (λ n. ([], refl, tt, record { once = λ i j less within e. absurd (omega arith); each = λ k. (λ h. (let b = h.1 in absurd (omega arith)), λ h. absurd h) }))

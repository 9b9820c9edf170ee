-- Joining two slots, for slots of any type that hold a link.
use Rattle.std.proofs.Common.{◌≡◌, ℕ, List, ap, ◌∙◌}
use Rattle.std.specs.Prelude.{Option, IsSome}
use Rattle.std.specs.Option.{option_map}
use Rattle.gp_graph.specs.inside.Slots.{slot_in}
use Rattle.gp_rings.specs.Chains.{Joins}
use Rattle.gp_graph.specs.inside.Rings.{link_in, with_next, with_prev, changed_at}
use Rattle.gp_rings.specs.declared.rings.Link.{Link}
use Rattle.gp_graph.specs.declared.slots.EdgeSlot.{EdgeSlot}
use Rattle.gp_graph.specs.declared.rings.Side.{Side}
use Rattle.gp_graph.proofs.Links.{kept, slot_other, changed_here, still_some, next_new, next_kept, prev_new, prev_kept}

-- how a slot shows its link, and how each half of the link is written
pub record IsLens (X : Type 0) (see : Option X → Link) (to_next to_prev : ℕ → X → X) : Type 0 where
  pub next_new : (v : ℕ) (o : Option X) → IsSome o → (see (option_map (to_next v) o)).next ≡ v
  pub prev_new : (v : ℕ) (o : Option X) → IsSome o → (see (option_map (to_prev v) o)).prev ≡ v
  pub next_kept : (v : ℕ) (o : Option X) → (see (option_map (to_prev v) o)).next ≡ (see o).next
  pub prev_kept : (v : ℕ) (o : Option X) → (see (option_map (to_next v) o)).prev ≡ (see o).prev

pub lens_joins : (X : Type 0) (see : Option X → Link) (to_next to_prev : ℕ → X → X) (xs : List (Option X)) (from to : ℕ) → IsLens X see to_next to_prev → IsSome (slot_in xs from) → IsSome (slot_in xs to)
    → Joins (λ k. (see (slot_in xs k)).next) (λ k. (see (slot_in xs k)).prev)
    (λ k. (see (slot_in (changed_at (to_prev from) (changed_at (to_next to) xs from) to) k)).next) (λ k. (see (slot_in (changed_at (to_prev from) (changed_at (to_next to) xs from) to) k)).prev) from to
lens_joins X see to_next to_prev xs from to lens f t =
    let mid = changed_at (to_next to) xs from in
    let next_same = kept (λ o. (see o).next) (to_prev from) (lens.next_kept from) mid to in
    let prev_same = kept (λ o. (see o).prev) (to_next to) (lens.prev_kept to) xs from in
    record {
      next_at = next_same from ∙ ap (λ o. (see o).next) (changed_here (to_next to) xs from) ∙ lens.next_new to (slot_in xs from) f;
      prev_at = ap (λ o. (see o).prev) (changed_here (to_prev from) mid to) ∙ lens.prev_new from (slot_in mid to) (still_some (to_next to) xs from to t);
      next_other = λ k ne. next_same k ∙ ap (λ o. (see o).next) (slot_other xs from (option_map (to_next to) (slot_in xs from)) k ne);
      prev_other = λ k ne. ap (λ o. (see o).prev) (slot_other mid to (option_map (to_prev from) (slot_in mid to)) k ne) ∙ prev_same k;
    }

pub edge_lens : (side : Side) → IsLens EdgeSlot (link_in side) (with_next side) (with_prev side)
edge_lens side = record { next_new = next_new side; prev_new = prev_new side; next_kept = next_kept side; prev_kept = prev_kept side }

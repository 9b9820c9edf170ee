-- The edges by the pair of their ends, in buckets.
use Rattle.std.specs.Prelude.{◌≡◌, ℕ, ◌+◌, ◌*◌, ◌/◌, ◌%◌, ◌^◌, ◌<◌, ◌≤◌, ◌==◌, Bool, ◌&&◌, List, Option, Some, None, length, slice_index_or, IsSomeAnd, IfSome}
use Rattle.gp_graph.specs.inside.Slots.{slot_in}
use Rattle.gp_graph.specs.Chains.{AreRings}
use Rattle.gp_graph.specs.declared.slots.Ring.{Ring}
use Rattle.gp_graph.specs.declared.slots.EdgeSlot.{EdgeSlot}
use Rattle.gp_graph.specs.declared.pairs.Pair.{Pair}
use Rattle.gp_graph.specs.declared.pairs.PairIndex.{PairIndex}

-- the bucket of a pair, of so many; any number below the count would do
unfoldable pub bucket_of : ℕ → ℕ → ℕ → ℕ
bucket_of count source target = ((source * 11400714819323198485) % 2 ^ 64 / 2 ^ 32 + target) % 2 ^ 64 % count

abbrev pub ring_at : List Ring → ℕ → Ring
ring_at bs b = slice_index_or bs b (record { first = 0; count = 0 })

abbrev pub pair_at : List Pair → ℕ → Pair
pair_at ps e = slice_index_or ps e (record { source = 0; target = 0; link = record { next = 0; prev = 0 } })

abbrev pub first_in : List Ring → ℕ → ℕ
first_in bs b = (ring_at bs b).first

abbrev pub count_in : List Ring → ℕ → ℕ
count_in bs b = (ring_at bs b).count

abbrev pub next_pair : List Pair → ℕ → ℕ
next_pair ps e = (pair_at ps e).link.next

abbrev pub prev_pair : List Pair → ℕ → ℕ
prev_pair ps e = (pair_at ps e).link.prev

abbrev pub has_ends : ℕ → ℕ → Pair → Bool
has_ends source target p = (p.source == source) && (p.target == target)

-- the ends of the edge in a slot
abbrev pub pair_in : Option EdgeSlot → Option (ℕ × ℕ)
pair_in None = None
pair_in (Some s) = Some (s.source, s.target)

-- an edge is there, and its pair falls in this bucket
abbrev pub FallsIn : ℕ → List (Option EdgeSlot) → ℕ → ℕ → Type 0
FallsIn count es b e = IsSomeAnd (pair_in (slot_in es e)) (λ p. bucket_of count p.0 p.1 ≡ b)

-- the index has the ends of an edge
abbrev pub HasEnds : Pair → Option EdgeSlot → Type 0
HasEnds p o = IfSome (pair_in o) (λ q. (p.source ≡ q.0) × (p.target ≡ q.1))

abbrev pub SameEnds : List Pair → List Pair → Type 0
SameEnds ps ps' = (e : ℕ) → ((pair_at ps' e).source ≡ (pair_at ps e).source) × ((pair_at ps' e).target ≡ (pair_at ps e).target)

-- each bucket's ring holds the edges that fall in it
pub record Indexes (bs : List Ring) (ps : List Pair) (es : List (Option EdgeSlot)) : Type 0 where
  pub rings : AreRings (first_in bs) (count_in bs) (next_pair ps) (prev_pair ps) (FallsIn (length bs) es)
  pub ends : (e : ℕ) → HasEnds (pair_at ps e) (slot_in es e)

-- the same but for one edge
pub record IndexesBut (bs : List Ring) (ps : List Pair) (es : List (Option EdgeSlot)) (x : ℕ) : Type 0 where
  pub rings : AreRings (first_in bs) (count_in bs) (next_pair ps) (prev_pair ps) (λ b e. FallsIn (length bs) es b e × (e ≡ x → ⊥))
  pub ends : (e : ℕ) → (e ≡ x → ⊥) → HasEnds (pair_at ps e) (slot_in es e)

-- where there are buckets, they index all edges
abbrev pub IsIndex : PairIndex → List (Option EdgeSlot) → Type 0
IsIndex i es = 0 < length i.buckets.items → (length es ≤ length i.pairs.items) × Indexes i.buckets.items i.pairs.items es

abbrev pub IsIndexBut : PairIndex → List (Option EdgeSlot) → ℕ → Type 0
IsIndexBut i es x = 0 < length i.buckets.items → (length es ≤ length i.pairs.items) × IndexesBut i.buckets.items i.pairs.items es x

-- no bucket holds an edge
abbrev pub AllEmpty : List Ring → Type 0
AllEmpty bs = (b : ℕ) → count_in bs b ≡ 0

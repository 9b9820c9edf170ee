-- The rings of edges through their slots: at each node one of the edges that begin there, and one of those that end
-- there.
use Rattle.std.specs.Prelude.{◌≡◌, ℕ, List, Option, Some, None, slice_set, IsSome, IsSomeAnd}
use Rattle.std.specs.Option.{option_map}
use Rattle.gp_values.specs.declared.atom.Atom.{Atom}
use Rattle.gp_values.specs.declared.marks.EdgeMark.{EdgeMark}
use Rattle.gp_values.specs.Graph.{Edge}
use Rattle.gp_graph.specs.inside.Slots.{slot_in}
use Rattle.gp_rings.specs.Chains.{AreRings}
use Rattle.gp_graph.specs.inside.View.{node_of, edge_of}
use Rattle.gp_rings.specs.declared.rings.Link.{Link}
use Rattle.gp_rings.specs.declared.rings.Ring.{Ring}
use Rattle.gp_graph.specs.declared.slots.NodeSlot.{NodeSlot}
use Rattle.gp_graph.specs.declared.slots.EdgeSlot.{EdgeSlot}
use Rattle.gp_graph.specs.declared.rings.Side.{Side}
use Rattle.gp_graph.specs.declared.rings.Side.TheVariants.{Beginning, Ending}

abbrev pub other : Side → Side
other Beginning = Ending
other Ending = Beginning

abbrev pub end_of : Side → Edge → ℕ
end_of Beginning d = d.source
end_of Ending d = d.target

abbrev pub link_of : Side → EdgeSlot → Link
link_of Beginning s = s.beginning
link_of Ending s = s.ending

abbrev pub ring_of : Side → NodeSlot → Ring
ring_of Beginning s = s.beginning
ring_of Ending s = s.ending

abbrev pub with_next : Side → ℕ → EdgeSlot → EdgeSlot
with_next Beginning n s = record s { beginning = record { next = n; prev = s.beginning.prev } }
with_next Ending n s = record s { ending = record { next = n; prev = s.ending.prev } }

abbrev pub with_prev : Side → ℕ → EdgeSlot → EdgeSlot
with_prev Beginning n s = record s { beginning = record { next = s.beginning.next; prev = n } }
with_prev Ending n s = record s { ending = record { next = s.ending.next; prev = n } }

abbrev pub with_ring : Side → Ring → NodeSlot → NodeSlot
with_ring Beginning r s = record s { beginning = r }
with_ring Ending r s = record s { ending = r }

-- a slot with another label and mark
abbrev pub rewritten_edge : List Atom → EdgeMark → EdgeSlot → EdgeSlot
rewritten_edge l m s = record s { label = l; mark = m }

-- the slot at a place, if it is taken, is changed
abbrev pub changed_at : {X : Type 0} → (X → X) → List (Option X) → ℕ → List (Option X)
changed_at f slots k = slice_set slots k (option_map f (slot_in slots k))

abbrev pub link_in : Side → Option EdgeSlot → Link
link_in side None = record { next = 0; prev = 0 }
link_in side (Some s) = link_of side s

abbrev pub ring_in : Side → Option NodeSlot → Ring
ring_in side None = record { first = 0; count = 0 }
ring_in side (Some s) = ring_of side s

abbrev pub next_of : Side → List (Option EdgeSlot) → ℕ → ℕ
next_of side es e = (link_in side (slot_in es e)).next

abbrev pub prev_of : Side → List (Option EdgeSlot) → ℕ → ℕ
prev_of side es e = (link_in side (slot_in es e)).prev

abbrev pub first_of : Side → List (Option NodeSlot) → ℕ → ℕ
first_of side ns n = (ring_in side (slot_in ns n)).first

abbrev pub count_of : Side → List (Option NodeSlot) → ℕ → ℕ
count_of side ns n = (ring_in side (slot_in ns n)).count

-- the link of a node among the roots
abbrev pub root_link : Option NodeSlot → Link
root_link None = record { next = 0; prev = 0 }
root_link (Some s) = s.among_roots

-- an edge is there, and it has this end
abbrev pub Meets : Side → List (Option EdgeSlot) → ℕ → ℕ → Type 0
Meets side es n e = IsSomeAnd (option_map edge_of (slot_in es e)) (λ d. end_of side d ≡ n)

-- each ring holds the edges of its node
abbrev pub HasRings : Side → List (Option NodeSlot) → List (Option EdgeSlot) → Type 0
HasRings side ns es = AreRings (first_of side ns) (count_of side ns) (next_of side es) (prev_of side es) (Meets side es)

-- each ring holds the edges of its node but for one
abbrev pub HasRingsBut : Side → List (Option NodeSlot) → List (Option EdgeSlot) → ℕ → Type 0
HasRingsBut side ns es x = AreRings (first_of side ns) (count_of side ns) (next_of side es) (prev_of side es) (λ n e. Meets side es n e × (e ≡ x → ⊥))

-- the same is seen at each place
abbrev pub ShowSame : {X Y : Type 0} → (X → Y) → List (Option X) → List (Option X) → Type 0
ShowSame f xs ys = (k : ℕ) → option_map f (slot_in ys k) ≡ option_map f (slot_in xs k)

-- the roots are linked as before
abbrev pub SameRootLinks : List (Option NodeSlot) → List (Option NodeSlot) → Type 0
SameRootLinks ns ns' = (n : ℕ) → root_link (slot_in ns' n) ≡ root_link (slot_in ns n)

-- nothing but the rings of one side has changed
pub record Keeps (side : Side) (ns : List (Option NodeSlot)) (es : List (Option EdgeSlot)) (ns' : List (Option NodeSlot)) (es' : List (Option EdgeSlot)) : Type 0 where
  pub nodes : ShowSame node_of ns ns'
  pub edges : ShowSame edge_of es es'
  pub rings : (n : ℕ) → ring_in (other side) (slot_in ns' n) ≡ ring_in (other side) (slot_in ns n)
  pub links : (e : ℕ) → link_in (other side) (slot_in es' e) ≡ link_in (other side) (slot_in es e)
  pub roots : SameRootLinks ns ns'

abbrev pub AllRings : List (Option NodeSlot) → List (Option EdgeSlot) → Type 0
AllRings ns es = (side : Side) → HasRings side ns es

abbrev pub AllRingsBut : List (Option NodeSlot) → List (Option EdgeSlot) → ℕ → Type 0
AllRingsBut ns es x = (side : Side) → HasRingsBut side ns es x

-- an edge is there, it goes from the one node to the other, and both are there
pub record Links (ns : List (Option NodeSlot)) (es : List (Option EdgeSlot)) (source target e : ℕ) : Type 0 where
  pub source_there : IsSome (slot_in ns source)
  pub target_there : IsSome (slot_in ns target)
  pub begins : Meets Beginning es source e
  pub ends : Meets Ending es target e

-- the same graph is seen, and its roots are linked as before
pub record ShowsSame (ns : List (Option NodeSlot)) (es : List (Option EdgeSlot)) (ns' : List (Option NodeSlot)) (es' : List (Option EdgeSlot)) : Type 0 where
  pub nodes : ShowSame node_of ns ns'
  pub edges : ShowSame edge_of es es'
  pub roots : SameRootLinks ns ns'

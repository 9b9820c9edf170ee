-- The ring of the roots through the slots of nodes.
use Rattle.std.specs.Prelude.{◌≡◌, ℕ, zero, suc, Bool, true, false, List, Option, Some, None, IsSomeAnd}
use Rattle.std.specs.Option.{option_map}
use Rattle.gp_values.specs.declared.atom.Atom.{Atom}
use Rattle.gp_values.specs.declared.marks.NodeMark.{NodeMark}
use Rattle.gp_graph.specs.inside.Slots.{slot_in}
use Rattle.gp_rings.specs.Chains.{AreRings}
use Rattle.gp_graph.specs.inside.View.{node_of}
use Rattle.gp_graph.specs.inside.Rings.{ring_in, root_link, ShowSame}
use Rattle.gp_rings.specs.declared.rings.Ring.{Ring}
use Rattle.gp_graph.specs.declared.slots.NodeSlot.{NodeSlot}
use Rattle.gp_graph.specs.declared.rings.Side.{Side}

abbrev pub with_next_root : ℕ → NodeSlot → NodeSlot
with_next_root n s = record s { among_roots = record { next = n; prev = s.among_roots.prev } }

abbrev pub with_prev_root : ℕ → NodeSlot → NodeSlot
with_prev_root n s = record s { among_roots = record { next = s.among_roots.next; prev = n } }

abbrev pub next_root : List (Option NodeSlot) → ℕ → ℕ
next_root ns n = (root_link (slot_in ns n)).next

abbrev pub prev_root : List (Option NodeSlot) → ℕ → ℕ
prev_root ns n = (root_link (slot_in ns n)).prev

-- There is one ring of roots, so it stands at the key 0, and at other keys there is none.
abbrev pub at_zero : ℕ → ℕ → ℕ
at_zero c zero = c
at_zero c (suc k) = 0

abbrev pub is_root_in : Option NodeSlot → Bool
is_root_in None = false
is_root_in (Some s) = s.root

-- a node is there, and it is a root
abbrev pub IsRootAt : List (Option NodeSlot) → ℕ → Type 0
IsRootAt ns n = IsSomeAnd (option_map node_of (slot_in ns n)) (λ x. x.root ≡ true)

-- the ring holds the roots
abbrev pub HasRoots : Ring → List (Option NodeSlot) → Type 0
HasRoots r ns = AreRings (at_zero r.first) (at_zero r.count) (next_root ns) (prev_root ns) (λ k n. (k ≡ 0) × IsRootAt ns n)

-- the ring holds the roots but for one node
abbrev pub HasRootsBut : Ring → List (Option NodeSlot) → ℕ → Type 0
HasRootsBut r ns x = AreRings (at_zero r.first) (at_zero r.count) (next_root ns) (prev_root ns) (λ k n. (k ≡ 0) × IsRootAt ns n × (n ≡ x → ⊥))

-- nothing but the links among the roots has changed
pub record KeepsNodes (ns ns' : List (Option NodeSlot)) : Type 0 where
  pub seen : ShowSame node_of ns ns'
  pub rings : (side : Side) (n : ℕ) → ring_in side (slot_in ns' n) ≡ ring_in side (slot_in ns n)

-- a slot with another label, mark and root
abbrev pub rewritten : List Atom → NodeMark → Bool → NodeSlot → NodeSlot
rewritten l m r s = record s { label = l; mark = m; root = r }

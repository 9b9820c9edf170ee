-- What is kept of the ends that were found.
use Rattle.std.specs.Prelude.{◌≡◌, ◌⊎◌, ℕ, List, Some}
use Rattle.std.specs.Ordering.{nat_cmp, ordering_then}
use Rattle.std.specs.declared.cmp.Ordering.{Ordering}
use Rattle.std.specs.BTreeMap.{BTreeMap, get}
use Rattle.std.specs.declared.vec.Vec.{Vec}
use Rattle.std.specs.declared.alloc.Global.{Global}
use Rattle.gp_certify.specs.declared.end.End.{End}

abbrev pub pair_cmp : ℕ × ℕ → ℕ × ℕ → Ordering
pair_cmp a b = ordering_then (nat_cmp a.0 b.0) (nat_cmp a.1 b.1)

abbrev pub Kept : Type 0
Kept = BTreeMap (ℕ × ℕ) (Vec End Global)

-- these are the ends that are kept for a node and a place
abbrev pub Knows : Kept → ℕ → ℕ → List End → Type 0
Knows m n i es = (v : Vec End Global) × (get pair_cmp m (i, n) ≡ Some v) × (v.items ≡ es)

-- what is known now was known, or is these ends
abbrev pub Learns : Kept → Kept → ℕ → ℕ → List End → Type 0
Learns old new n i es = (k j : ℕ) (fs : List End) → Knows new k j fs → Knows old k j fs ⊎ ((k ≡ n) × (j ≡ i) × (fs ≡ es))

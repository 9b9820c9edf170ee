-- The order of atoms and of lists.
use Rattle.std.specs.Prelude.{◌≡◌, ◌↔◌, List}
use Rattle.std.specs.declared.cmp.Ordering.{Ordering}
use Rattle.std.specs.declared.cmp.Ordering.TheVariants.{Less, Equal, Greater}
use Rattle.std.specs.Ordering.{int_cmp, nat_cmp}
use Rattle.std.specs.Cmp.{IsTotalOrder}
use Rattle.std.specs.Cmp.Lexicographic.{slice_cmp}
use Rattle.gp_values.specs.declared.atom.Atom.{Atom}
use Rattle.gp_values.specs.declared.atom.Atom.TheVariants.{Int, Str}

-- integers by their values, strings by their characters in turn, and integers before strings
abbrev pub atom_cmp : Atom → Atom → Ordering
atom_cmp (Int x) (Int y) = int_cmp x y
atom_cmp (Int x) (Str t) = Less
atom_cmp (Str s) (Int y) = Greater
atom_cmp (Str s) (Str t) = slice_cmp nat_cmp s t

-- atom by atom, and a list before each that it begins
abbrev pub list_cmp : List Atom → List Atom → Ordering
list_cmp v w = slice_cmp atom_cmp v w

-- The order is total, and its ties are the equal lists.
pub record OrdersLists : Type 0 where
  pub total : IsTotalOrder list_cmp
  pub ties : (v w : List Atom) → (list_cmp v w ≡ Equal) ↔ (v ≡ w)

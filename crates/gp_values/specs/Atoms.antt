-- Atoms and lists (Plump 2012, section 2: labels).
use Rattle.std.specs.Prelude.{ℤ, nat_eq, Bool, false, List, All, FitsSigned}
use Rattle.std.specs.Int.{w128}
use Rattle.std.specs.Ordering.{int_eq}
use Rattle.std.specs.Cmp.Lexicographic.{pointwise}
use Rattle.gp_values.specs.declared.atom.Atom.{Atom}
use Rattle.gp_values.specs.declared.atom.Atom.TheVariants.{Int, Str}
use Rattle.gp_values.specs.Texts.{IsText}

-- an integer from -2^127 to 2^127 - 1
abbrev pub IsInteger : ℤ → Type 0
IsInteger z = FitsSigned w128 z

abbrev pub IsAtom : Atom → Type 0
IsAtom (Int z) = IsInteger z
IsAtom (Str s) = IsText s

-- A list label is any finite list of atoms: `empty` is the list of none, and a list of one atom is that atom.
abbrev pub AreAtoms : List Atom → Type 0
AreAtoms v = All IsAtom v

-- the tests of equality that definitions use
abbrev pub same_atom : Atom → Atom → Bool
same_atom (Int x) (Int y) = int_eq x y
same_atom (Str s) (Str t) = pointwise nat_eq s t
same_atom (Int x) (Str t) = false
same_atom (Str s) (Int y) = false

abbrev pub same_list : List Atom → List Atom → Bool
same_list v w = pointwise same_atom v w

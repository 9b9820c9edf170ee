-- The tests of equality of the definitions are exact.
use Rattle.std.proofs.Common.{◌≡◌, List, ap}
use Rattle.std.specs.Bool.{Decides}
use Rattle.std.specs.Cmp.{signed_Decides}
use Rattle.std.specs.Cmp.Lexicographic.{pointwise_decides, bytes_decides}
use Rattle.gp_values.specs.declared.atom.Atom.{Atom}
use Rattle.gp_values.specs.declared.atom.Atom.TheVariants.{Int, Str}
use Rattle.gp_values.specs.Atoms.{same_atom, same_list}

pub same_atom-Decides : (x y : Atom) → Decides (same_atom x y) (x ≡ y)
same_atom-Decides (Int x) (Int y) = (λ h. ap Int ((signed_Decides x y).0 h), λ e. (signed_Decides x y).1 cc)
same_atom-Decides (Str s) (Str t) = (λ h. ap Str ((bytes_decides s t).0 h), λ e. (bytes_decides s t).1 cc)
same_atom-Decides (Int x) (Str t) = (λ h. cc, λ e. cc)
same_atom-Decides (Str s) (Int y) = (λ h. cc, λ e. cc)

pub same_list-Decides : (v w : List Atom) → Decides (same_list v w) (v ≡ w)
same_list-Decides = pointwise_decides same_atom-Decides

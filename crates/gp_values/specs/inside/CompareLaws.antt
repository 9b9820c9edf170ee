-- What the comparisons of atoms and lists owe: the order is total, and its ties are what is equal.
use Rattle.std.proofs.Common.{◌≡◌, List, refl, sym, ap, ◌∙◌}
use Rattle.std.specs.Prelude.{◌↔◌, Some}
use Rattle.std.specs.declared.cmp.Ordering.TheVariants.{Less, Equal}
use Rattle.std.specs.Ordering.{eq_by_cmp, is_eq, ordering_reverse}
use Rattle.std.specs.Cmp.{IsTotalOrder, IsEquivalence, IsPartialEquivalence, IsPartialOrder, int_cmp_total, Equal-is, po, decided, partial_equiv_from_equiv}
use Rattle.std.specs.Cmp.Lexicographic.{nat_list_cmp_total, texts_ties, lists_total, lists_ties}
use Rattle.gp_values.specs.declared.atom.Atom.{Atom}
use Rattle.gp_values.specs.declared.atom.Atom.TheVariants.{Int, Str}
use Rattle.gp_values.specs.Atoms.{same_atom, same_list}
use Rattle.gp_values.specs.Compare.{atom_cmp, list_cmp}
use Rattle.gp_values.specs.EqualityLaws.{same_atom-Decides, same_list-Decides}

antisymm : (x y : Atom) → atom_cmp x y ≡ ordering_reverse (atom_cmp y x)
antisymm (Int x) (Int y) = int_cmp_total.antisymm x y
antisymm (Int x) (Str t) = refl
antisymm (Str s) (Int y) = refl
antisymm (Str s) (Str t) = nat_list_cmp_total.antisymm s t

trans : (x y z : Atom) → atom_cmp x y ≡ Less → atom_cmp y z ≡ Less → atom_cmp x z ≡ Less
trans (Int x) (Int y) (Int z) h k = int_cmp_total.trans x y z h k
trans (Int x) (Int y) (Str u) h k = refl
trans (Int x) (Str t) (Int z) h k = cc
trans (Int x) (Str t) (Str u) h k = refl
trans (Str s) (Int y) (Int z) h k = cc
trans (Str s) (Int y) (Str u) h k = cc
trans (Str s) (Str t) (Int z) h k = cc
trans (Str s) (Str t) (Str u) h k = nat_list_cmp_total.trans s t u h k

congr : (x y z : Atom) → atom_cmp x y ≡ Equal → atom_cmp x z ≡ atom_cmp y z
congr (Int x) (Int y) (Int z) h = int_cmp_total.congr x y z h
congr (Int x) (Int y) (Str u) h = refl
congr (Int x) (Str t) z h = cc
congr (Str s) (Int y) z h = cc
congr (Str s) (Str t) (Int z) h = refl
congr (Str s) (Str t) (Str u) h = nat_list_cmp_total.congr s t u h

pub atoms_total : IsTotalOrder atom_cmp
atoms_total = record { antisymm = antisymm; trans = trans; congr = congr }

pub atoms_ties : (x y : Atom) → same_atom x y ≡ eq_by_cmp atom_cmp x y
atoms_ties (Int x) (Int y) = refl
atoms_ties (Int x) (Str t) = refl
atoms_ties (Str s) (Int y) = refl
atoms_ties (Str s) (Str t) = texts_ties s t

pub list_cmp_total : IsTotalOrder list_cmp
list_cmp_total = lists_total atoms_total

pub list_cmp_ties : (v w : List Atom) → same_list v w ≡ eq_by_cmp list_cmp v w
list_cmp_ties = lists_ties atom_cmp atoms_ties

pub list_cmp-equal : (v w : List Atom) → (list_cmp v w ≡ Equal) ↔ (v ≡ w)
list_cmp-equal v w = (λ e. (same_list-Decides v w).0 (list_cmp_ties v w ∙ ap is_eq e), λ e. (Equal-is (list_cmp v w)).0 (sym (list_cmp_ties v w) ∙ (same_list-Decides v w).1 e))

-- the laws that the comparisons owe
pub atoms_equiv : IsEquivalence same_atom
atoms_equiv = decided same_atom same_atom-Decides

pub atoms_per : IsPartialEquivalence same_atom
atoms_per = partial_equiv_from_equiv atoms_equiv

pub atoms_po : IsPartialOrder same_atom (λ x y. Some (atom_cmp x y))
atoms_po = po atoms_total atoms_ties

pub lists_equiv : IsEquivalence same_list
lists_equiv = decided same_list same_list-Decides

pub lists_per : IsPartialEquivalence same_list
lists_per = partial_equiv_from_equiv lists_equiv

pub lists_po : IsPartialOrder same_list (λ v w. Some (list_cmp v w))
lists_po = po list_cmp_total list_cmp_ties

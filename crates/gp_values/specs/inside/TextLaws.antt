-- The law that the comparison of strings owes.
use Rattle.std.specs.Prelude.{nat_eq}
use Rattle.std.specs.Cmp.{IsPartialEquivalence, partial_equiv_from_equiv}
use Rattle.std.specs.Cmp.Lexicographic.{pointwise, nat_list_eq_equiv}

pub texts_per : IsPartialEquivalence (pointwise nat_eq)
texts_per = partial_equiv_from_equiv nat_list_eq_equiv

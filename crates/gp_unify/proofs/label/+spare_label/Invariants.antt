use Rattle.std.proofs.Common.{◌≡◌, ◌+◌, ◌-◌, drop, map}
use Rattle.gp_syntax.specs.Tree.{label_of, joins}
use Rattle.gp_syntax.specs.Typing.{type_in}
use Rattle.gp_unify.specs.Unify.{atoms_in}
use Rattle.gp_unify.specs.inside.Reading.{all_atoms, size, sizes}
use Rattle.gp_unify.proofs.label.+spare_label.Given as goal

abbrev pub decreases-spare_in_label : goal.decreases-spare_in_label
decreases-spare_in_label l = size l.label.now

abbrev pub decreases-spare_in_joins : goal.decreases-spare_in_joins
decreases-spare_in_joins l = 1 + size l.first.now + sizes l.rest.now

abbrev pub invariant-spare_in_joins-parts : goal.invariant-spare_in_joins-parts
invariant-spare_in_joins-parts l = let ts = type_in l.types in
    l.left - all_atoms ts (drop l.part-index l.rest) ≡ l.fn.count - atoms_in ts (joins (label_of l.first) (map label_of l.rest))

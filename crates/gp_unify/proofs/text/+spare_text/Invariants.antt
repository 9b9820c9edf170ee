use Rattle.std.proofs.Common.{◌≡◌, ◌+◌, ◌-◌, drop, map}
use Rattle.gp_syntax.specs.Tree.{label_of, dots}
use Rattle.gp_syntax.specs.Typing.{type_in}
use Rattle.gp_unify.specs.Unify.{characters_in}
use Rattle.gp_unify.specs.inside.Reading.{all_characters, size, sizes}
use Rattle.gp_unify.proofs.text.+spare_text.Given as goal

abbrev pub decreases-spare_in_text : goal.decreases-spare_in_text
decreases-spare_in_text l = size l.part.now

abbrev pub decreases-spare_in_dots : goal.decreases-spare_in_dots
decreases-spare_in_dots l = 1 + size l.first.now + sizes l.rest.now

abbrev pub invariant-spare_in_dots-parts : goal.invariant-spare_in_dots-parts
invariant-spare_in_dots-parts l = let ts = type_in l.types in
    l.left - all_characters ts (drop l.part-index l.rest) ≡ l.fn.count - characters_in ts (dots (label_of l.first) (map label_of l.rest))

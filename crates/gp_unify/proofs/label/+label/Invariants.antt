use Rattle.std.proofs.Common.{◌≡◌, ◌+◌, drop, fold, Some}
use Rattle.gp_syntax.specs.Tree.{label_of}
use Rattle.gp_syntax.specs.Typing.{type_in}
use Rattle.gp_unify.specs.Extension.{known_of}
use Rattle.gp_unify.specs.Trail.{Grown}
use Rattle.gp_unify.specs.Unify.{rest, read}
use Rattle.gp_unify.specs.inside.Reading.{join_step, size, sizes}
use Rattle.gp_unify.proofs.label.+label.Given as goal

abbrev pub decreases-read : goal.decreases-read
decreases-read l = size l.label.now

abbrev pub decreases-read_joins : goal.decreases-read_joins
decreases-read_joins l = 1 + size l.first.now + sizes l.rest.now

abbrev pub invariant-read_joins-parts : goal.invariant-read_joins-parts
invariant-read_joins-parts l = let ts = type_in l.fn.assignment.types in record {
  on : fold (join_step ts l.reading.spare) (Some (rest l.left (known_of l.assignment))) (drop l.part-index l.rest) ≡ fold (join_step ts l.reading.spare) (read ts l.reading.spare (label_of l.first) l.atoms (known_of l.fn.assignment)) l.rest;
  grown : Grown l.fn.assignment l.assignment l.fn.trail.items l.trail.items;
}

use Rattle.std.proofs.Common.{◌≡◌, ◌+◌, drop, fold, Some}
use Rattle.gp_values.specs.Texts.{IsText}
use Rattle.gp_syntax.specs.Tree.{label_of}
use Rattle.gp_syntax.specs.Typing.{type_in}
use Rattle.gp_unify.specs.Extension.{known_of}
use Rattle.gp_unify.specs.Trail.{Grown}
use Rattle.gp_unify.specs.Unify.{rest, read_text}
use Rattle.gp_unify.specs.inside.Reading.{text_step, size, sizes}
use Rattle.gp_unify.proofs.text.+text.Given as goal

abbrev pub decreases-read_text : goal.decreases-read_text
decreases-read_text l = size l.part.now

abbrev pub decreases-read_dots : goal.decreases-read_dots
decreases-read_dots l = 1 + size l.first.now + sizes l.rest.now

abbrev pub invariant-read_dots-parts : goal.invariant-read_dots-parts
invariant-read_dots-parts l = let ts = type_in l.fn.assignment.types in record {
  on : fold (text_step ts l.reading.spare) (Some (rest l.left (known_of l.assignment))) (drop l.part-index l.rest) ≡ fold (text_step ts l.reading.spare) (read_text ts l.reading.spare (label_of l.first) l.codes (known_of l.fn.assignment)) l.rest;
  grown : Grown l.fn.assignment l.assignment l.fn.trail.items l.trail.items;
  text : IsText l.left;
}

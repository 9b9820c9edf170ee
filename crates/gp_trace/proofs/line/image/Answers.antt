use Rattle.std.specs.Prelude.{Some, codes}
use Rattle.std.proofs.lemmas.Slice.Eq.{strip_suffix_is}
use Rattle.std.proofs.lemmas.Bool.Decides.{Decides-eqb}
use Rattle.gp_trace.proofs.WordFacts.{image_tail}
use Rattle.gp_trace.proofs.line.image.Goals as goal

pub returns-in-Some-strip_suffix : goal.returns-in-Some-strip_suffix
returns-in-Some-strip_suffix c =
    image_tail c.args.word.now c.in-Some-strip_suffix.word.now c.reversed_image.result c.in_default.ensures
    (strip_suffix_is Decides-eqb c.args.word.now (codes "~") (Some c.in-Some-strip_suffix.word) c.in-Some-strip_suffix.ensures.cases) c.reversed_image.ensures

use Rattle.std.proofs.lemmas.Slice.Eq.{slice_eq-Decides}
use Rattle.std.proofs.lemmas.Bool.Decides.{Decides-eqb}
use Rattle.gp_trace.proofs.WordFacts.{word_is_by}
use Rattle.gp_trace.proofs.line.word_is.Goals as goal

pub returns : goal.returns
returns c = word_is_by c.args.words.now c.args.at _ c.args.word.now c.eq.result c.requires (slice_eq-Decides Decides-eqb _ _ _ c.eq.ensures)

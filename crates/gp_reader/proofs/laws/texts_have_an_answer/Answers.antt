use Rattle.gp_reader.proofs.Some.{an_answer}
use Rattle.gp_reader.proofs.laws.texts_have_an_answer.Goals as goal

pub returns : goal.returns
returns c = an_answer c.tokens_are_the_cut.ensures.refusals c.tokens_have_an_answer.ensures

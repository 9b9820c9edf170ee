use Rattle.gp_reader.proofs.Some.{a_tree_or_a_fault}
use Rattle.gp_reader.proofs.laws.texts_have_a_tree_or_a_fault.Goals as goal

pub returns : goal.returns
returns c = a_tree_or_a_fault c.tokens_are_the_cut.ensures.refusals c.tokens_have_an_answer.ensures

use Rattle.gp_reader.proofs.Unique.{one_program}
use Rattle.gp_reader.proofs.laws.texts_have_one_program.Goals as goal

pub returns : goal.returns
returns c = one_program c.tokens_have_one_tree.ensures

use Rattle.gp_program.proofs.Parsing.{one_tree}
use Rattle.gp_program.proofs.laws.tokens_have_one_tree.Goals as goal

pub returns : goal.returns
returns c = one_tree

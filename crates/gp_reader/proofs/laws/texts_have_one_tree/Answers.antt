use Rattle.gp_reader.proofs.Unique.{same_tree, no_tree_fault}
use Rattle.gp_reader.proofs.laws.texts_have_one_tree.Goals as goal

pub returns-clause-one : goal.returns-clause-one
returns-clause-one c = same_tree c.tokens_have_one_tree.ensures

pub returns-clause-none : goal.returns-clause-none
returns-clause-none c = no_tree_fault c.tokens_have_one_tree.ensures

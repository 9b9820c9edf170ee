use Rattle.gp_reader.proofs.Unique.{no_fault, one_fault}
use Rattle.gp_reader.proofs.laws.texts_have_one_fault.Goals as goal

pub returns-clause-none : goal.returns-clause-none
returns-clause-none c = no_fault c.tokens_have_one_tree.ensures

pub returns-clause-one : goal.returns-clause-one
returns-clause-one c = λ bytes. one_fault c.tokens_have_one_tree.ensures bytes c.fault_is_unique.ensures.one

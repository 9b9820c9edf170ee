use Rattle.gp_syntax.proofs.Values.{second_part_waits, edge_tests, other_tests}
use Rattle.gp_syntax.proofs.laws.condition_examples.Goals as goal

pub returns-clause-second_part : goal.returns-clause-second_part
returns-clause-second_part c = second_part_waits

pub returns-clause-edges : goal.returns-clause-edges
returns-clause-edges c = edge_tests

pub returns-clause-others : goal.returns-clause-others
returns-clause-others c = other_tests

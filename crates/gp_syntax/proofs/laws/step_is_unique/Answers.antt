use Rattle.gp_syntax.proofs.Unique.{one_graph, one_graph_of_any}
use Rattle.gp_syntax.proofs.laws.step_is_unique.Goals as goal

pub returns-clause-by_assignment : goal.returns-clause-by_assignment
returns-clause-by_assignment c = λ r g m a h k s t. one_graph s t

pub returns-clause-without_variables : goal.returns-clause-without_variables
returns-clause-without_variables c = one_graph_of_any

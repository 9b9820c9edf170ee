use Rattle.gp_syntax.proofs.Blocked.{one_is_not_two}
use Rattle.gp_syntax.proofs.Parallel.{parallel_edges_match}
use Rattle.gp_syntax.proofs.laws.parallel_edge_examples.Goals as goal

pub returns-clause-one : goal.returns-clause-one
returns-clause-one c = one_is_not_two

pub returns-clause-two : goal.returns-clause-two
returns-clause-two c = parallel_edges_match

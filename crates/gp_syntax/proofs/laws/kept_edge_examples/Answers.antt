use Rattle.gp_syntax.proofs.OneEdge.{kept_edge_is_relabelled, other_ends_are_another_edge, direction_is_kept, one_way_is_another_edge, any_keeps_mark_of_edge}
use Rattle.gp_syntax.proofs.Parallel.{kept_beside_removed}
use Rattle.gp_syntax.proofs.laws.kept_edge_examples.Goals as goal

pub returns-clause-relabelled : goal.returns-clause-relabelled
returns-clause-relabelled c = kept_edge_is_relabelled

pub returns-clause-other_ends : goal.returns-clause-other_ends
returns-clause-other_ends c = other_ends_are_another_edge

pub returns-clause-direction : goal.returns-clause-direction
returns-clause-direction c = direction_is_kept

pub returns-clause-one_way : goal.returns-clause-one_way
returns-clause-one_way c = one_way_is_another_edge

pub returns-clause-any : goal.returns-clause-any
returns-clause-any c = any_keeps_mark_of_edge

pub returns-clause-parallel : goal.returns-clause-parallel
returns-clause-parallel c = kept_beside_removed

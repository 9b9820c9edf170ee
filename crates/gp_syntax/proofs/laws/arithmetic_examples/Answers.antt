use Rattle.gp_syntax.proofs.Values.{arithmetic_has_ends, division_truncates, first_kind_is_told}
use Rattle.gp_syntax.proofs.laws.arithmetic_examples.Goals as goal

pub returns-clause-ends : goal.returns-clause-ends
returns-clause-ends c = arithmetic_has_ends

pub returns-clause-division : goal.returns-clause-division
returns-clause-division c = division_truncates

pub returns-clause-first_kind : goal.returns-clause-first_kind
returns-clause-first_kind c = first_kind_is_told

use Rattle.gp_syntax.proofs.Values.{chains_join, length_goes_by_type, degrees_count_loops}
use Rattle.gp_syntax.proofs.laws.value_examples.Goals as goal

pub returns-clause-chains : goal.returns-clause-chains
returns-clause-chains c = chains_join

pub returns-clause-lengths : goal.returns-clause-lengths
returns-clause-lengths c = length_goes_by_type

pub returns-clause-degrees : goal.returns-clause-degrees
returns-clause-degrees c = degrees_count_loops

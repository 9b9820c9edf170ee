use Rattle.gp_reader.proofs.Visible.{numbers_are_places, rules_are_in_order}
use Rattle.gp_reader.proofs.Visible_calls.{programs_call}
use Rattle.gp_reader.proofs.laws.names_become_places.Goals as goal

pub returns-clause-numbers : goal.returns-clause-numbers
returns-clause-numbers c = numbers_are_places

pub returns-clause-rules : goal.returns-clause-rules
returns-clause-rules c = rules_are_in_order

pub returns-clause-program : goal.returns-clause-program
returns-clause-program c = programs_call

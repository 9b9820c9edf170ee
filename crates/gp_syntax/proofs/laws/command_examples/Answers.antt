use Rattle.gp_syntax.proofs.Commands.{if_takes_back, try_takes_back, failed_body_is_taken_back, break_keeps_body, empty_set_ends_loop, skip_loop_stands, then_begins, else_begins, first_part_ends, or_takes_either, procedures_run}
use Rattle.gp_syntax.proofs.laws.command_examples.Goals as goal

pub returns-clause-condition : goal.returns-clause-condition
returns-clause-condition c = if_takes_back

pub returns-clause-tried : goal.returns-clause-tried
returns-clause-tried c = try_takes_back

pub returns-clause-failed_body : goal.returns-clause-failed_body
returns-clause-failed_body c = failed_body_is_taken_back

pub returns-clause-broken_body : goal.returns-clause-broken_body
returns-clause-broken_body c = break_keeps_body

pub returns-clause-empty_set : goal.returns-clause-empty_set
returns-clause-empty_set c = empty_set_ends_loop

pub returns-clause-standing : goal.returns-clause-standing
returns-clause-standing c = skip_loop_stands

pub returns-clause-then_begins : goal.returns-clause-then_begins
returns-clause-then_begins c = then_begins

pub returns-clause-else_begins : goal.returns-clause-else_begins
returns-clause-else_begins c = else_begins

pub returns-clause-first_part : goal.returns-clause-first_part
returns-clause-first_part c = first_part_ends

pub returns-clause-either : goal.returns-clause-either
returns-clause-either c = or_takes_either

pub returns-clause-procedures : goal.returns-clause-procedures
returns-clause-procedures c = procedures_run

use Rattle.std.proofs.Common.{◌+◌, ◌*◌}
use Rattle.gp_program.proofs.command.+command.Given as goal

abbrev pub decreases-read_simple : goal.decreases-read_simple
decreases-read_simple l = 10 * l.room

abbrev pub decreases-read_block : goal.decreases-read_block
decreases-read_block l = 10 * l.room + 2

abbrev pub decreases-read_part : goal.decreases-read_part
decreases-read_part l = 10 * l.room + 3

abbrev pub decreases-read_branches : goal.decreases-read_branches
decreases-read_branches l = 10 * l.room + 4

abbrev pub decreases-read_command : goal.decreases-read_command
decreases-read_command l = 10 * l.room + 5

abbrev pub decreases-read_commands : goal.decreases-read_commands
decreases-read_commands l = 10 * l.room + 7

abbrev pub decreases-read_repeatable : goal.decreases-read_repeatable
decreases-read_repeatable l = 10 * l.room + 8

abbrev pub decreases-read_simple_in : goal.decreases-read_simple_in
decreases-read_simple_in l = 10 * l.room + 9

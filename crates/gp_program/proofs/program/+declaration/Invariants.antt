use Rattle.std.proofs.Common.{◌+◌, ◌*◌}
use Rattle.gp_program.proofs.program.+declaration.Given as goal

abbrev pub decreases-read_declarations : goal.decreases-read_declarations
decreases-read_declarations l = 5 * l.rooms.locals

abbrev pub decreases-read_locals : goal.decreases-read_locals
decreases-read_locals l = 5 * l.rooms.locals + 1

abbrev pub decreases-read_group : goal.decreases-read_group
decreases-read_group l = 5 * l.rooms.locals + 2

abbrev pub decreases-read_declarations_in : goal.decreases-read_declarations_in
decreases-read_declarations_in l = 5 * l.rooms.locals + 4

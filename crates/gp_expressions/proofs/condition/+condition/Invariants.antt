use Rattle.std.proofs.Common.{◌+◌, ◌*◌}
use Rattle.gp_expressions.proofs.condition.+condition.Given as goal

abbrev pub decreases-read_negation : goal.decreases-read_negation
decreases-read_negation l = 5 * l.rooms.conditions

abbrev pub decreases-read_condition : goal.decreases-read_condition
decreases-read_condition l = 5 * l.room + 2

abbrev pub decreases-read_negated : goal.decreases-read_negated
decreases-read_negated l = 5 * l.room + 4

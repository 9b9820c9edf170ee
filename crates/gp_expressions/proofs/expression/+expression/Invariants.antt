use Rattle.std.proofs.Common.{◌+◌, ◌*◌}
use Rattle.gp_expressions.proofs.expression.+expression.Given as goal

abbrev pub decreases-read_operand : goal.decreases-read_operand
decreases-read_operand l = 10 * l.room

abbrev pub decreases-read_unary : goal.decreases-read_unary
decreases-read_unary l = 10 * l.room + 1

abbrev pub decreases-read_product : goal.decreases-read_product
decreases-read_product l = 10 * l.room + 3

abbrev pub decreases-read_sum : goal.decreases-read_sum
decreases-read_sum l = 10 * l.room + 5

abbrev pub decreases-read_list : goal.decreases-read_list
decreases-read_list l = 10 * l.room + 7

abbrev pub decreases-read_nested : goal.decreases-read_nested
decreases-read_nested l = 10 * l.room + 8

use Rattle.gp_clauses.specs.Size.{size}
use Rattle.gp_check.proofs.expression.+negated_label.Given as goal

abbrev pub decreases-negated_label : goal.decreases-negated_label
decreases-negated_label l = size l.operand.now

use Rattle.std.proofs.Common.{◌≡◌, drop, fold}
use Rattle.gp_clauses.specs.Shapes.{operands}
use Rattle.gp_clauses.specs.Size.{size}
use Rattle.gp_clauses.specs.inside.Tables.{with_operand_names}
use Rattle.gp_clauses.proofs.variables.+add_variables.Given as goal

abbrev pub decreases-add_variables : goal.decreases-add_variables
decreases-add_variables l = size l.e.now

abbrev pub invariant-operands : goal.invariant-operands
invariant-operands l = fold with_operand_names l.table (drop l.at (operands l.links)) ≡ fold with_operand_names l.initial.table (operands l.links)

use Rattle.std.proofs.Common.{◌≡◌, drop, fold}
use Rattle.gp_syntax.specs.Tree.{label_of}
use Rattle.gp_clauses.specs.Shapes.{operands}
use Rattle.gp_clauses.specs.Size.{size}
use Rattle.gp_check.proofs.Placing.{with_placed}
use Rattle.gp_check.proofs.expression.+label.Given as goal

abbrev pub decreases-label : goal.decreases-label
decreases-label l = size l.e.now

abbrev pub invariant-operands : goal.invariant-operands
invariant-operands l = fold (with_placed l.places) (label_of l.total) (drop l.at (operands l.links)) ≡ fold (with_placed l.places) (label_of l.initial.total) (operands l.links)

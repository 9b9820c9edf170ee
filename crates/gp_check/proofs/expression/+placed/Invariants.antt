use Rattle.std.proofs.Common.{◌≡◌, drop, fold}
use Rattle.gp_syntax.specs.Tree.{expression_of}
use Rattle.gp_clauses.specs.Shapes.{operands}
use Rattle.gp_clauses.specs.Size.{size}
use Rattle.gp_check.proofs.Placing.{with_placed}
use Rattle.gp_check.proofs.expression.+placed.Given as goal

abbrev pub decreases-placed : goal.decreases-placed
decreases-placed l = size l.e.now

abbrev pub invariant-operands : goal.invariant-operands
invariant-operands l = fold (with_placed l.places) (expression_of l.total) (drop l.at (operands l.links)) ≡ fold (with_placed l.places) (expression_of l.initial.total) (operands l.links)

use Rattle.std.proofs.Common.{◌≡◌, drop}
use Rattle.gp_syntax.specs.Fault.{first_told}
use Rattle.gp_clauses.specs.Shapes.{operands}
use Rattle.gp_clauses.specs.Size.{size}
use Rattle.gp_clauses.proofs.Knowns.{unknown_at}
use Rattle.gp_clauses.proofs.known.+unknown_in.Given as goal

abbrev pub decreases-unknown_in : goal.decreases-unknown_in
decreases-unknown_in l = size l.e.now

abbrev pub invariant-operands : goal.invariant-operands
invariant-operands l = first_told (unknown_at l.known) (drop l.at (operands l.links)) ≡ first_told (unknown_at l.known) (operands l.links)

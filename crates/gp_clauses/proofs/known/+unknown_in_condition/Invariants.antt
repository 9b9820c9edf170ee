use Rattle.std.proofs.Common.{◌≡◌, drop}
use Rattle.gp_syntax.specs.Fault.{first_told}
use Rattle.gp_clauses.specs.Size.{condition_size}
use Rattle.gp_clauses.proofs.Knowns.{unknown_in_part}
use Rattle.gp_clauses.proofs.known.+unknown_in_condition.Given as goal

abbrev pub decreases-unknown_in_condition : goal.decreases-unknown_in_condition
decreases-unknown_in_condition l = condition_size l.c.now

abbrev pub invariant-parts : goal.invariant-parts
invariant-parts l = first_told (unknown_in_part l.known) (drop l.part-index l.rest) ≡ first_told (unknown_in_part l.known) l.rest

use Rattle.std.proofs.Common.{◌≡◌, ◌+◌, ◌≤◌, length}
use Rattle.gp_expressions.specs.Conditions.{encloses}
use Rattle.gp_expressions.proofs.condition.encloses.Given as goal

abbrev pub invariant-each : goal.invariant-each
invariant-each l = (encloses l.inside l.rest ≡ encloses 0 l.fn.tokens) × (l.inside + length l.rest ≤ length l.fn.tokens)

abbrev pub decreases-each : goal.decreases-each
decreases-each l = length l.rest

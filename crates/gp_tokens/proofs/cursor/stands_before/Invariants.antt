use Rattle.std.proofs.Common.{◌≡◌, length}
use Rattle.gp_tokens.specs.Ahead.{stands_before}
use Rattle.gp_tokens.proofs.cursor.stands_before.Given as goal

abbrev pub invariant-each : goal.invariant-each
invariant-each l = stands_before l.want l.stop l.rest ≡ stands_before l.want l.stop l.tokens

abbrev pub decreases-each : goal.decreases-each
decreases-each l = length l.rest

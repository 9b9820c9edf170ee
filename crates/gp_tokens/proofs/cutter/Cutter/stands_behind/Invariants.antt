use Rattle.std.proofs.Common.{◌≡◌, drop, length}
use Rattle.gp_tokens.specs.Ahead.{stands_before}
use Rattle.gp_tokens.proofs.cutter.Cutter.stands_behind.Given as goal

abbrev pub invariant-each : goal.invariant-each
invariant-each l = stands_before l.want l.stop l.left ≡ stands_before l.want l.stop (drop 1 l.self)

abbrev pub decreases-each : goal.decreases-each
decreases-each l = length l.left

use Rattle.std.proofs.Common.{◌≡◌, ◌++◌, reverse, length}
use Rattle.gp_reader.proofs.taken.turned.Given as goal

abbrev pub invariant-each : goal.invariant-each
invariant-each l = reverse l.fn.rules ≡ l.turned ++ reverse l.left

abbrev pub decreases-each : goal.decreases-each
decreases-each l = length l.left

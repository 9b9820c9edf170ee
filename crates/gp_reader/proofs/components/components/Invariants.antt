use Rattle.std.proofs.Common.{◌≡◌, length}
use Rattle.gp_reader.proofs.components.components.Given as goal

abbrev pub invariant-loop-root : goal.invariant-loop-root
invariant-loop-root l = length l.walk.ranks.items ≡ l.count

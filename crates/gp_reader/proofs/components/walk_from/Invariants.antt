use Rattle.std.proofs.Common.{◌≡◌, length}
use Rattle.gp_reader.proofs.components.walk_from.Given as goal

abbrev pub invariant-loop : goal.invariant-loop
invariant-loop l = length l.walk.ranks.items ≡ length l.fn.walk.ranks.items

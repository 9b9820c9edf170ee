use Rattle.std.proofs.Common.{◌≡◌, length, vec_len}
use Rattle.gp_reader.proofs.components.rank_waiting.Given as goal

abbrev pub invariant-loop-done : goal.invariant-loop-done
invariant-loop-done l = length l.walk.ranks.items ≡ length l.fn.walk.ranks.items

abbrev pub decreases-loop-done : goal.decreases-loop-done
decreases-loop-done l = vec_len l.walk.waiting

use Rattle.std.proofs.Common.{◌≡◌, length}
use Rattle.gp_io.specs.Stored.{bytes_before_failure}
use Rattle.gp_io.proofs.mem_sink.cut_of.Given as goal

-- the pairs that are left list what all list
abbrev pub invariant-loop-rest : goal.invariant-loop-rest
invariant-loop-rest l = bytes_before_failure l.rest l.call ≡ bytes_before_failure l.failing l.call

abbrev pub decreases-loop-rest : goal.decreases-loop-rest
decreases-loop-rest l = length l.rest

use Rattle.std.proofs.Common.{Contains}
use Rattle.gp_certify.specs.inside.Grows.{Grows, IsAmong}
use Rattle.gp_certify.proofs.starts.put_ends.Given as goal

abbrev pub invariant-more : goal.invariant-more
invariant-more l = Grows (Contains l.initial.ends.items) (Contains l.ends.items) (IsAmong l.more l.end-index)

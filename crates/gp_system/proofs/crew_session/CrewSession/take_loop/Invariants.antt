use Rattle.std.proofs.Common.{◌≡◌, ◌%◌}
use Rattle.gp_system.specs.inside.Viewed.{view_of}
use Rattle.gp_system.specs.inside.AfterTurn.{HasGone, still}
use Rattle.gp_system.proofs.crew_session.CrewSession.take_loop.Given as goal

abbrev pub invariant-turns : goal.invariant-turns
invariant-turns g l = record { going : HasGone l.call l.stands (view_of l.fn.self) (view_of l.self); odd : l.lease % 2 ≡ 1 }

abbrev pub decreases-turns : goal.decreases-turns
decreases-turns g l = still l.stands l.self.left

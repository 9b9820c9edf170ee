use Rattle.std.proofs.Common.{◌≡◌, ◌≤◌}
use Rattle.gp_system.specs.inside.Viewed.{view_of}
use Rattle.gp_system.specs.inside.AfterTurn.{GoesOn}
use Rattle.gp_system.proofs.session.Session.take_turns.Given as goal

abbrev pub invariant-turns : goal.invariant-turns
invariant-turns l = record { going : GoesOn l.call (view_of l.initial.self) (view_of l.self); less : l.self.left ≤ l.initial.self.left; program : l.self.program ≡ l.initial.self.program }

abbrev pub decreases-turns : goal.decreases-turns
decreases-turns l = l.self.left

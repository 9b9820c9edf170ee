use Rattle.std.proofs.Common.{◌∙◌, ap}
use Rattle.gp_system.specs.inside.Viewed.{Shown}
use Rattle.gp_system.proofs.Endings.{called_so}
use Rattle.gp_system.proofs.crew_session.CrewSession.pursue_one.Goals as goal

pub returns-in-Ok-Committed : goal.returns-in-Ok-Committed
returns-in-Ok-Committed g c = called_so _ _ _ _ _ c.requires (c.left-left.ensures ∙ ap (λ (s : Shown). s.left) c.self.view_is) (rw c.in-Ok-Committed.field-0-is at c.in-Ok-Committed.ensures)

pub returns-in-Ok-Blocked : goal.returns-in-Ok-Blocked
returns-in-Ok-Blocked g c = called_so _ _ _ _ _ c.requires (c.left-left.ensures ∙ ap (λ (s : Shown). s.left) c.self.view_is) (rw c.in-Ok-Blocked.field-0-is at c.in-Ok-Blocked.ensures)

pub returns-in-Ok-Bound : goal.returns-in-Ok-Bound
returns-in-Ok-Bound g c = called_so _ _ _ _ _ c.requires (c.left-left.ensures ∙ ap (λ (s : Shown). s.left) c.self.view_is) (rw c.in-Ok-Bound.field-0-is at c.in-Ok-Bound.ensures)

pub returns-in-Ok-Fault : goal.returns-in-Ok-Fault
returns-in-Ok-Fault g c = called_so _ _ _ _ _ c.requires (c.left-left.ensures ∙ ap (λ (s : Shown). s.left) c.self.view_is) (rw c.in-Ok-Fault.field-0-is at c.in-Ok-Fault.ensures)

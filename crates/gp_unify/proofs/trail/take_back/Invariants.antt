use Rattle.std.proofs.Common.{length}
use Rattle.gp_unify.proofs.Trails.{Takes}
use Rattle.gp_unify.proofs.trail.take_back.Given as goal

abbrev pub invariant-told : goal.invariant-told
invariant-told l = Takes l.count l.initial.trail.items l.initial.assignment l.trail.items l.assignment

abbrev pub decreases-told : goal.decreases-told
decreases-told l = length l.trail.items

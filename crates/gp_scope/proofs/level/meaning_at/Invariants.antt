use Rattle.std.proofs.Common.{◌≡◌, ◌≤◌, take, length}
use Rattle.gp_scope.specs.Names.{meaning_in}
use Rattle.gp_scope.specs.inside.Levels.{scope_of}
use Rattle.gp_scope.proofs.level.meaning_at.Given as goal

abbrev pub invariant-levels : goal.invariant-levels
invariant-levels l = (l.count ≤ length l.levels) × (meaning_in (scope_of (take l.count l.levels)) l.name ≡ meaning_in (scope_of l.levels) l.name)

abbrev pub decreases-levels : goal.decreases-levels
decreases-levels l = l.count

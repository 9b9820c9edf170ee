use Rattle.std.proofs.Common.{◌≡◌, ◌+◌, ◌*◌, [], drop}
use Rattle.gp_scope.specs.Outline.{outline}
use Rattle.gp_scope.specs.Fault.{doubled_behind}
use Rattle.gp_scope.specs.Surveys.{weight, weights}
use Rattle.gp_scope.proofs.doubled.+doubled.Given as goal

abbrev pub invariant-first_doubled-each : goal.invariant-first_doubled-each
invariant-first_doubled-each l = doubled_behind l.seen (outline (drop l.declaration-index l.declarations)) ≡ doubled_behind [] (outline l.declarations)

abbrev pub decreases-first_doubled : goal.decreases-first_doubled
decreases-first_doubled l = 1 + 2 * weights l.declarations.now

abbrev pub decreases-doubled_within : goal.decreases-doubled_within
decreases-doubled_within l = 2 * weight l.declaration.now

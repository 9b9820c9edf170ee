use Rattle.std.proofs.Common.{◌≡◌, ◌+◌, ◌*◌, drop}
use Rattle.gp_scope.specs.Outline.{outline}
use Rattle.gp_scope.specs.Surveys.{survey_of, both_counted, weight, weights}
use Rattle.gp_scope.proofs.survey.+count.Given as goal

abbrev pub invariant-count_declared-each : goal.invariant-count_declared-each
invariant-count_declared-each l = both_counted l.all (survey_of (outline (drop l.declaration-index l.declarations))) ≡ survey_of (outline l.declarations)

abbrev pub decreases-count_declared : goal.decreases-count_declared
decreases-count_declared l = 1 + 2 * weights l.declarations.now

abbrev pub decreases-count_one : goal.decreases-count_one
decreases-count_one l = 2 * weight l.declaration.now

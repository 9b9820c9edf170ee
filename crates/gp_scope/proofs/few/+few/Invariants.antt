use Rattle.std.proofs.Common.{◌≡◌, ◌+◌, ◌*◌, drop}
use Rattle.gp_scope.specs.Outline.{outline}
use Rattle.gp_scope.specs.Surveys.{declarations_in, weight, weights}
use Rattle.gp_scope.proofs.few.+few.Given as goal

abbrev pub invariant-declaration_count-each : goal.invariant-declaration_count-each
invariant-declaration_count-each l = l.all + declarations_in (outline (drop l.declaration-index l.declarations)) ≡ declarations_in (outline l.declarations)

abbrev pub decreases-declaration_count : goal.decreases-declaration_count
decreases-declaration_count l = 1 + 2 * weights l.declarations.now

abbrev pub decreases-count_within : goal.decreases-count_within
decreases-count_within l = 2 * weight l.declaration.now

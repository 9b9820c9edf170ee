use Rattle.std.proofs.Common.{◌≡◌, ◌+◌, ◌*◌, List, ◌++◌, reverse, length}
use Rattle.gp_syntax.specs.declared.tree.Decl.{Decl}
use Rattle.gp_scope.specs.Outline.{outline, rules_in}
use Rattle.gp_scope.specs.Surveys.{weight, weights}
use Rattle.gp_reader.proofs.taken.+taken.Given as goal

abbrev pub invariant-take_each-each : goal.invariant-take_each-each
invariant-take_each-each l = (done : List Decl) × ((l.fn.declarations ≡ l.left ++ done) × (reverse l.taken ≡ rules_in (outline done) ++ reverse l.fn.taken))

abbrev pub decreases-take_each-each : goal.decreases-take_each-each
decreases-take_each-each l = length l.left

abbrev pub decreases-take_each : goal.decreases-take_each
decreases-take_each l = 1 + 2 * weights l.declarations

abbrev pub decreases-take_own : goal.decreases-take_own
decreases-take_own l = 2 * weight l.declaration

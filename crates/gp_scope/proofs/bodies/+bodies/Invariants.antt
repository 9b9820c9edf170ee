use Rattle.std.proofs.Common.{◌≡◌, ◌+◌, ◌*◌, ◌<◌, ◌^◌, List, None, drop}
use Rattle.gp_values.specs.Names.{Name}
use Rattle.gp_scope.specs.Outline.{outline}
use Rattle.gp_scope.specs.Names.{bodies}
use Rattle.gp_scope.specs.Fault.{doubled_behind}
use Rattle.gp_scope.specs.inside.Levels.{scope_of}
use Rattle.gp_scope.specs.inside.Numbering.{numbered_of, with_bodies}
use Rattle.gp_scope.specs.Surveys.{declarations_in, weight, weights}
use Rattle.gp_scope.proofs.bodies.+bodies.Given as goal

abbrev pub invariant-put_bodies-each : goal.invariant-put_bodies-each
invariant-put_bodies-each l = record {
  bodies : with_bodies (numbered_of l.done) (bodies (scope_of l.fn.levels.items) l.at.rules l.at.procedures (outline (drop l.declaration-index l.declarations)))
      ≡ with_bodies (numbered_of l.fn.done) (bodies (scope_of l.fn.levels.items) l.fn.first.rules l.fn.first.procedures (outline l.declarations));
  levels : l.levels.items ≡ l.fn.levels.items;
  once : (seen : List Name) × (doubled_behind seen (outline (drop l.declaration-index l.declarations)) ≡ None);
  few : l.at.rules + l.at.procedures + l.at.mains + declarations_in (outline (drop l.declaration-index l.declarations)) < 2 ^ 32;
}

abbrev pub decreases-put_bodies : goal.decreases-put_bodies
decreases-put_bodies l = 1 + 2 * weights l.declarations.now

abbrev pub decreases-put_own : goal.decreases-put_own
decreases-put_own l = 2 * weight l.declaration.now

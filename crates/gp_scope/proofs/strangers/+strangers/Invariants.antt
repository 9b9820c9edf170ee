use Rattle.std.proofs.Common.{◌≡◌, ◌+◌, ◌*◌, ◌<◌, ◌^◌, List, None, drop}
use Rattle.gp_values.specs.Names.{Name}
use Rattle.gp_scope.specs.Outline.{outline}
use Rattle.gp_scope.specs.Names.{bodies_in_text}
use Rattle.gp_scope.specs.Fault.{doubled_behind, first_told}
use Rattle.gp_scope.specs.inside.Levels.{scope_of}
use Rattle.gp_scope.specs.inside.Declares.{unknown_of}
use Rattle.gp_scope.specs.Surveys.{declarations_in, weight, weights}
use Rattle.gp_scope.proofs.strangers.+strangers.Given as goal

abbrev pub invariant-first_unknown-each : goal.invariant-first_unknown-each
invariant-first_unknown-each l = record {
  told : first_told unknown_of (bodies_in_text (scope_of l.fn.levels.items) l.at.rules l.at.procedures (outline (drop l.declaration-index l.declarations)))
      ≡ first_told unknown_of (bodies_in_text (scope_of l.fn.levels.items) l.fn.first.rules l.fn.first.procedures (outline l.declarations));
  levels : l.levels.items ≡ l.fn.levels.items;
  once : (seen : List Name) × (doubled_behind seen (outline (drop l.declaration-index l.declarations)) ≡ None);
  few : l.at.rules + l.at.procedures + l.at.mains + declarations_in (outline (drop l.declaration-index l.declarations)) < 2 ^ 32;
}

abbrev pub decreases-first_unknown : goal.decreases-first_unknown
decreases-first_unknown l = 1 + 2 * weights l.declarations.now

abbrev pub decreases-unknown_within : goal.decreases-unknown_within
decreases-unknown_within l = 2 * weight l.declaration.now

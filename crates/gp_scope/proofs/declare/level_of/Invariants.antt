use Rattle.std.proofs.Common.{◌≡◌, ◌+◌, ◌<◌, ◌++◌, ◌^◌, List, None, true, drop}
use Rattle.gp_values.specs.Names.{Name, has_name}
use Rattle.gp_scope.specs.Outline.{outline}
use Rattle.gp_scope.specs.Names.{entries}
use Rattle.gp_scope.specs.Fault.{doubled_behind}
use Rattle.gp_scope.specs.inside.Levels.{names_of}
use Rattle.gp_scope.specs.Surveys.{declarations_in}
use Rattle.gp_scope.proofs.declare.level_of.Given as goal

abbrev pub invariant-each : goal.invariant-each
invariant-each l = record {
  entries : l.level ++ entries l.at.rules l.at.procedures (outline (drop l.declaration-index l.declarations)) ≡ entries l.fn.first.rules l.fn.first.procedures (outline l.declarations);
  once : (seen : List Name) × ((doubled_behind seen (outline (drop l.declaration-index l.declarations)) ≡ None) × ((n : Name) → has_name (names_of l.level) n ≡ true → has_name seen n ≡ true));
  few : l.at.rules + l.at.procedures + l.at.mains + declarations_in (outline (drop l.declaration-index l.declarations)) < 2 ^ 32;
}

use Rattle.std.proofs.Common.{◌≡◌, map, take}
use Rattle.gp_scope.specs.Resolved.{rule_number}
use Rattle.gp_scope.specs.inside.Levels.{scope_of}
use Rattle.gp_scope.proofs.number.rules_of.Given as goal

abbrev pub invariant-each : goal.invariant-each
invariant-each l = l.rules.items ≡ map (rule_number (scope_of l.levels)) (take l.name-index l.names)

use Rattle.std.proofs.Common.{◌≡◌, drop}
use Rattle.gp_scope.specs.Fault.{first_told}
use Rattle.gp_scope.specs.inside.Levels.{scope_of}
use Rattle.gp_scope.specs.inside.Commands.{unknown_rule}
use Rattle.gp_scope.proofs.unknown.unknown_rule.Given as goal

abbrev pub invariant-each : goal.invariant-each
invariant-each l = first_told (unknown_rule (scope_of l.levels)) (drop l.name-index l.names) ≡ first_told (unknown_rule (scope_of l.levels)) l.names

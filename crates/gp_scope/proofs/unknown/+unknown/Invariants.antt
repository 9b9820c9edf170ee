use Rattle.std.proofs.Common.{◌≡◌, drop}
use Rattle.gp_scope.specs.inside.Levels.{scope_of}
use Rattle.gp_scope.specs.inside.Commands.{unknown_in_rest}
use Rattle.gp_scope.proofs.unknown.+unknown.Given as goal

abbrev pub invariant-unknown_in_rest-each : goal.invariant-unknown_in_rest-each
invariant-unknown_in_rest-each l = unknown_in_rest (scope_of l.levels) (drop l.command-index l.commands) ≡ unknown_in_rest (scope_of l.levels) l.commands

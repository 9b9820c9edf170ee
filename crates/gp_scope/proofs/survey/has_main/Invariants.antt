use Rattle.std.proofs.Common.{◌≡◌, drop}
use Rattle.gp_scope.specs.Outline.{outline}
use Rattle.gp_scope.specs.Fault.{declares_main}
use Rattle.gp_scope.proofs.survey.has_main.Given as goal

abbrev pub invariant-each : goal.invariant-each
invariant-each l = declares_main (outline (drop l.declaration-index l.declarations)) ≡ declares_main (outline l.declarations)

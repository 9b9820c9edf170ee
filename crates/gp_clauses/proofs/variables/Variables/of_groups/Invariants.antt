use Rattle.std.proofs.Common.{◌≡◌, drop, fold}
use Rattle.gp_clauses.specs.inside.Tables.{no_variables, with_group}
use Rattle.gp_clauses.proofs.variables.Variables.of_groups.Given as goal

abbrev pub invariant-loop-group : goal.invariant-loop-group
invariant-loop-group l = fold (with_group l.kept) l.variables (drop l.group-index l.groups) ≡ fold (with_group l.kept) no_variables l.groups

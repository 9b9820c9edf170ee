use Rattle.std.proofs.Common.{◌≡◌, ◌++◌, replicate}
use Rattle.std.specs.Prelude.{None}
use Rattle.gp_syntax.proofs.assignment.add_variables.Given as goal

abbrev pub invariant-loop : goal.invariant-loop
invariant-loop l = l.values.items ≡ l.initial.values.items ++ replicate l.index None

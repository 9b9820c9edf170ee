use Rattle.std.proofs.Common.{◌≡◌}
use Rattle.gp_rule_cases.proofs.rules.unification.answers.Given as goal

abbrev pub invariant-labels : goal.invariant-labels
invariant-labels l = record { types : l.assignment.types ≡ l.fn.assignment.types }

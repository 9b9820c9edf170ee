use Rattle.std.proofs.Common.{map}
use Rattle.gp_syntax.specs.Tree.{rule_of_tree}
use Rattle.gp_derivation.specs.Stepper.{IsStepperOf}
use Rattle.gp_run_cases.proofs.runs.moves.walk_on.Given as goal

abbrev pub invariant-loop : goal.invariant-loop
invariant-loop l = IsStepperOf (map rule_of_tree l.rules) l.stepper

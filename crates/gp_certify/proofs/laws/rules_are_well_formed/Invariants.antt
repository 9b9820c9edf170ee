use Rattle.std.proofs.Common.{map, take, All}
use Rattle.gp_syntax.specs.Tree.{rule_of_tree}
use Rattle.gp_syntax.specs.WellFormed.{IsWellFormed}
use Rattle.gp_certify.proofs.laws.rules_are_well_formed.Given as goal

abbrev pub invariant-loop-rule : goal.invariant-loop-rule
invariant-loop-rule l = All IsWellFormed (map rule_of_tree (take l.rule-index l.rules))

use Rattle.gp_rule_cases.proofs.rules.walks.+walk.Given as goal

abbrev pub decreases-walk : goal.decreases-walk
decreases-walk l = l.left

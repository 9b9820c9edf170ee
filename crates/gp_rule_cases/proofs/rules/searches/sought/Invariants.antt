use Rattle.gp_rule_cases.proofs.rules.searches.sought.Given as goal

abbrev pub ghosts-counted : goal.ghosts-counted
ghosts-counted a = record { name = a.blank.name; parts = a.blank.parts }

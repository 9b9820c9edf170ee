-- What holds of the rules of a program, and answers for one of them.
use Rattle.std.specs.Prelude.{◌<◌, ℕ, List, All, map, length}
use Rattle.gp_syntax.specs.declared.rule.RuleParts.{RuleParts}
use Rattle.gp_syntax.specs.Tree.{rule_of_tree}
use Rattle.gp_syntax.specs.WellFormed.{IsWellFormed}
use Rattle.gp_syntax.specs.Rule.{Found}
use Rattle.gp_match.specs.declared.check.Verdict as match_verdict
use Rattle.gp_match.specs.declared.check.Verdict.TheVariants as matched
use Rattle.gp_search.specs.declared.sought.Sought as found
use Rattle.gp_search.specs.declared.sought.Sought.TheVariants as answers
use Rattle.opt_system.specs.declared.answers.Verdict.{Verdict}
use Rattle.opt_system.specs.declared.answers.Verdict.TheVariants as verdict
use Rattle.opt_system.specs.declared.answers.Sought.{Sought}
use Rattle.opt_system.specs.declared.answers.Sought.TheVariants as sought
use Rattle.gp_system.specs.declared.goal.Fault.{Fault}

pub record AreChecked (rules : List RuleParts) (sets : List (List ℕ)) : Type 0 where
  pub well_formed : All IsWellFormed (map rule_of_tree rules)
  pub in_range : All (All (λ k. k < length rules)) sets

-- the answers for one rule, with the number of that rule
abbrev pub verdict_of : ℕ → match_verdict.Verdict → Verdict Fault
verdict_of k matched.Applies = verdict.Applies
verdict_of k (matched.Faulty kind) = verdict.Faulty (record { rule = k; kind = kind })
verdict_of k matched.No = verdict.No
verdict_of k matched.NoMemory = verdict.NoMemory

abbrev pub sought_of : found.Sought → Sought Found Fault
sought_of (answers.Applies m p) = sought.Applies m
sought_of (answers.Faulty m kind) = sought.Faulty m (record { rule = m.rule; kind = kind })
sought_of answers.Barren = sought.Barren
sought_of answers.NoMemory = sought.NoMemory

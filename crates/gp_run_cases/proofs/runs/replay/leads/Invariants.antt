use Rattle.std.proofs.Common.{map, take}
use Rattle.gp_syntax.specs.Tree.{rule_of_tree}
use Rattle.gp_journal.specs.Leads.{Leads}
use Rattle.gp_journal.specs.Journal.{items_of}
use Rattle.gp_run_cases.proofs.runs.replay.leads.Given as goal

abbrev pub invariant-loop-item : goal.invariant-loop-item
invariant-loop-item l = Leads (map rule_of_tree l.rules) (items_of (take l.item-index l.items)) l.trail l.at

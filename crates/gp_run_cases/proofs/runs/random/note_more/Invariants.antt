use Rattle.std.proofs.Common.{map}
use Rattle.gp_syntax.specs.Tree.{rule_of_tree}
use Rattle.gp_journal.specs.Journal.{IsJournalOf}
use Rattle.gp_run_cases.proofs.runs.random.note_more.Given as goal

abbrev pub invariant-loop : goal.invariant-loop
invariant-loop l = IsJournalOf (map rule_of_tree l.rules) l.initial.journal → IsJournalOf (map rule_of_tree l.rules) l.journal

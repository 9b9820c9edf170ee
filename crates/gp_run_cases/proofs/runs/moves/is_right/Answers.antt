use Rattle.std.proofs.Common.{List, map, refl, sym, subst}
use Rattle.gp_syntax.specs.Rule.{Rule}
use Rattle.gp_syntax.specs.Tree.{rule_of_tree}
use Rattle.gp_journal.specs.Journal.{IsJournalOf}
use Rattle.gp_run_cases.proofs.runs.moves.is_right.Goals as goal

-- a journal without items is of each list of rules
pub walk_on-requires : goal.walk_on-requires
walk_on-requires c =
    let rules : List Rule = map rule_of_tree c.args.rules.now in
    c.new-stepper.ensures.of_rules rules (c.note_more.ensures.of_rules (subst (IsJournalOf rules) (sym c.new-journal.ensures) refl))

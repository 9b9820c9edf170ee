use Rattle.gp_syntax.specs.Tree.{rule_of_tree}
use Rattle.gp_journal.proofs.Trails.{only_after}
use Rattle.gp_journal.proofs.trail.step.Goals as goal

pub returns-clause-only : goal.returns-clause-only
returns-clause-only c =
    only_after c.apply.result (rule_of_tree c.args.rule.now) c.args.graph.now.graph c.apply.new.graph.graph c.args.found.now c.parts-well_formed.ensures.well_formed c.next_numbers-sound.ensures.sound c.apply.ensures.after

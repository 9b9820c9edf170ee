use Rattle.gp_syntax.specs.Step.{Step}
use Rattle.gp_syntax.specs.Tree.{rule_of_tree}
use Rattle.gp_step.proofs.Afters.{applying_steps}
use Rattle.gp_step.proofs.Makes.{is_ready, after_is, on_same}
use Rattle.gp_step.proofs.applying.apply_told.Goals as goal

pub apply_by-requires : goal.apply_by-requires
apply_by-requires c =
    rw c.parts.ensures.value (is_ready c.args.rule.now c.args.graph.now.graph c.args.found.now c.args.assignment.now c.parts.ensures.well_formed (_, c.requires.applies) c.requires.told)

pub returns-clause-after : goal.returns-clause-after
returns-clause-after c =
    let r = rule_of_tree c.args.rule.now in
    rw (after_is r c.args.graph.now.graph c.args.found.now c.args.assignment.now c.parts.ensures.well_formed (_, c.requires.applies) c.requires.told, ← c.parts.ensures.value) c.apply_by.ensures.ok

pub returns-clause-step : goal.returns-clause-step
returns-clause-step c =
    let r = rule_of_tree c.args.rule.now in
    on_same c.apply_by.result (Step r c.args.graph.now.graph c.args.found.now) _ _ (returns-clause-after c) (applying_steps r c.args.graph.now.graph c.args.found.now c.parts.ensures.well_formed c.next_numbers-sound.ensures.sound (_, c.requires.applies))

use Rattle.std.proofs.Common.{◌∙◌, map, refl, sym}
use Rattle.std.proofs.lemmas.Result.{on_ok_weaker}
use Rattle.gp_syntax.specs.declared.found.Item.TheVariants.{Step, Turn, Back}
use Rattle.gp_syntax.specs.Run as meant
use Rattle.gp_syntax.specs.Tree.{rule_of_tree}
use Rattle.gp_journal.specs.Journal.{items_of}
use Rattle.gp_derivation.specs.inside.Stands.{stacks_of}
use Rattle.gp_derivation.proofs.StepperMoves.{moved_forward}
use Rattle.gp_derivation.proofs.StepperStandings.{item_at, next_stacks, may_step, may_go_back}
use Rattle.gp_derivation.proofs.forward.make.Goals as goal

pub step-requires : goal.step-requires
step-requires c =
    may_step (map rule_of_tree c.args.rules.now) c.args.items.now c.args.place c.args.standing.now c.requires.place c.in-Step.found
    (item_at c.args.items.now c.args.place c.index-items-place.result (Step c.in-Step.found) c.requires.place c.index-items-place.is c.in-Step.is) c.requires.stands.of_rules

pub take_back-requires-clause-trail : goal.take_back-requires-clause-trail
take_back-requires-clause-trail c =
    (may_go_back (map rule_of_tree c.args.rules.now) c.args.items.now c.args.place c.args.standing.now c.requires.place c.in-Back.count
    (item_at c.args.items.now c.args.place c.index-items-place.result (Back c.in-Back.count) c.requires.place c.index-items-place.is c.in-Back.is) c.requires.stands).0

pub take_back-requires-clause-live : goal.take_back-requires-clause-live
take_back-requires-clause-live c =
    (may_go_back (map rule_of_tree c.args.rules.now) c.args.items.now c.args.place c.args.standing.now c.requires.place c.in-Back.count
    (item_at c.args.items.now c.args.place c.index-items-place.result (Back c.in-Back.count) c.requires.place c.index-items-place.is c.in-Back.is) c.requires.stands).1

pub returns-in-Step-clause-moved : goal.returns-in-Step-clause-moved
returns-in-Step-clause-moved c =
    let e = item_at c.args.items.now c.args.place c.index-items-place.result (Step c.in-Step.found) c.requires.place c.index-items-place.is c.in-Step.is in
    on_ok_weaker c.step.result
    (λ g. moved_forward (map rule_of_tree c.args.rules.now) c.args.items.now c.args.place (meant.Stepped c.in-Step.found) e c.args.standing.now.trail c.step.new.standing.trail c.requires.place c.requires.stands.of_rules g)
    c.step.ensures.goes

pub returns-in-Step-clause-stacks : goal.returns-in-Step-clause-stacks
returns-in-Step-clause-stacks c =
    let e = item_at c.args.items.now c.args.place c.index-items-place.result (Step c.in-Step.found) c.requires.place c.index-items-place.is c.in-Step.is in
    on_ok_weaker c.step.result (λ s. next_stacks (items_of c.args.items.now) c.args.place (meant.Stepped c.in-Step.found) (stacks_of c.args.standing.now) (stacks_of c.step.new.standing) e s c.requires.stands.stacks) c.step.ensures.stacks

pub returns-in-Turn-clause-moved : goal.returns-in-Turn-clause-moved
returns-in-Turn-clause-moved c =
    let e = item_at c.args.items.now c.args.place c.index-items-place.result Turn c.requires.place c.index-items-place.is c.in-Turn.is in
    let t = c.args.standing.now.trail in
    moved_forward (map rule_of_tree c.args.rules.now) c.args.items.now c.args.place meant.Turned e t t c.requires.place c.requires.stands.of_rules (record { goes = refl; only = λ v g. g })

pub returns-in-Turn-clause-stacks : goal.returns-in-Turn-clause-stacks
returns-in-Turn-clause-stacks c =
    let e = item_at c.args.items.now c.args.place c.index-items-place.result Turn c.requires.place c.index-items-place.is c.in-Turn.is in
    next_stacks (items_of c.args.items.now) c.args.place meant.Turned (stacks_of c.args.standing.now) (stacks_of c.args.standing.now) e refl c.requires.stands.stacks

pub returns-in-Back-clause-moved : goal.returns-in-Back-clause-moved
returns-in-Back-clause-moved c =
    let e = item_at c.args.items.now c.args.place c.index-items-place.result (Back c.in-Back.count) c.requires.place c.index-items-place.is c.in-Back.is in
    let deep = (may_go_back (map rule_of_tree c.args.rules.now) c.args.items.now c.args.place c.args.standing.now c.requires.place c.in-Back.count e c.requires.stands).0 in
    on_ok_weaker c.take_back.result
    (λ b. moved_forward (map rule_of_tree c.args.rules.now) c.args.items.now c.args.place (meant.Back c.in-Back.count) e c.args.standing.now.trail c.take_back.new.standing.trail c.requires.place c.requires.stands.of_rules (record { goes = (deep, b); only = λ v g. g.1 ∙ sym b }))
    c.take_back.ensures.trail

pub returns-in-Back-clause-stacks : goal.returns-in-Back-clause-stacks
returns-in-Back-clause-stacks c =
    let e = item_at c.args.items.now c.args.place c.index-items-place.result (Back c.in-Back.count) c.requires.place c.index-items-place.is c.in-Back.is in
    on_ok_weaker c.take_back.result (λ s. next_stacks (items_of c.args.items.now) c.args.place (meant.Back c.in-Back.count) (stacks_of c.args.standing.now) (stacks_of c.take_back.new.standing) e s c.requires.stands.stacks) c.take_back.ensures.stacks

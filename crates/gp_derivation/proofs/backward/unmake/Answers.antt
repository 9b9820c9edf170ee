use Rattle.std.proofs.Common.{◌∙◌, ◌+◌, map, sym, subst}
use Rattle.std.proofs.lemmas.Result.{on_ok_weaker}
use Rattle.gp_syntax.specs.declared.found.Item.TheVariants.{Step, Turn, Back}
use Rattle.gp_syntax.specs.Tree.{rule_of_tree}
use Rattle.gp_journal.specs.Journal.{items_of}
use Rattle.gp_derivation.specs.Stepper.{IsMoved}
use Rattle.gp_derivation.specs.inside.Stands.{stacks_of, shown_at}
use Rattle.gp_derivation.proofs.StepperMoves.{at}
use Rattle.gp_derivation.proofs.StepperStandings.{item_at, popped, before_step, before_turn, before_back}
use Rattle.gp_derivation.proofs.backward.unmake.Goals as goal

pub back-requires : goal.back-requires
back-requires c =
    (before_step (map rule_of_tree c.args.rules.now) c.args.items.now c.args.place c.args.standing.now c.requires.place c.in-Step.field-0
    (item_at c.args.items.now c.args.place c.index-items-place.result (Step c.in-Step.field-0) c.requires.place c.index-items-place.is c.in-Step.is) c.requires.stands.of_rules).0

pub make_again-requires-clause-taken : goal.make_again-requires-clause-taken
make_again-requires-clause-taken c =
    (before_back (map rule_of_tree c.args.rules.now) c.args.items.now c.args.place c.args.standing.now c.requires.place c.in-Back.count
    (item_at c.args.items.now c.args.place c.index-items-place.result (Back c.in-Back.count) c.requires.place c.index-items-place.is c.in-Back.is) c.requires.stands).room

pub make_again-requires-clause-steps : goal.make_again-requires-clause-steps
make_again-requires-clause-steps c =
    let b = before_back (map rule_of_tree c.args.rules.now) c.args.items.now c.args.place c.args.standing.now c.requires.place c.in-Back.count
    (item_at c.args.items.now c.args.place c.index-items-place.result (Back c.in-Back.count) c.requires.place c.index-items-place.is c.in-Back.is) c.requires.stands in
    (b.trail, b.steps)

pub returns-in-Step-clause-moved : goal.returns-in-Step-clause-moved
returns-in-Step-clause-moved c =
    let b = before_step (map rule_of_tree c.args.rules.now) c.args.items.now c.args.place c.args.standing.now c.requires.place c.in-Step.field-0
    (item_at c.args.items.now c.args.place c.index-items-place.result (Step c.in-Step.field-0) c.requires.place c.index-items-place.is c.in-Step.is) c.requires.stands.of_rules in
    subst (λ t. IsMoved (map rule_of_tree c.args.rules.now) (shown_at c.args.items.now (c.args.place + 1) c.args.standing.now) (at c.args.items.now c.args.place t) c.args.place) (sym c.back.ensures.back) b.1

pub returns-in-Step-clause-stacks : goal.returns-in-Step-clause-stacks
returns-in-Step-clause-stacks c =
    let s = c.args.standing.now in
    popped (items_of c.args.items.now) c.args.place _ c.in-Step.field-0 (stacks_of s) c.pop-number.new.self.items
    (item_at c.args.items.now c.args.place c.index-items-place.result (Step c.in-Step.field-0) c.requires.place c.index-items-place.is c.in-Step.is) c.requires.stands.stacks s.live.ok.0 c.pop-number.ensures.rest

pub returns-in-Turn-clause-moved : goal.returns-in-Turn-clause-moved
returns-in-Turn-clause-moved c =
    (before_turn (map rule_of_tree c.args.rules.now) c.args.items.now c.args.place c.args.standing.now c.requires.place
    (item_at c.args.items.now c.args.place c.index-items-place.result Turn c.requires.place c.index-items-place.is c.in-Turn.is) c.requires.stands).0

pub returns-in-Turn-clause-stacks : goal.returns-in-Turn-clause-stacks
returns-in-Turn-clause-stacks c =
    (before_turn (map rule_of_tree c.args.rules.now) c.args.items.now c.args.place c.args.standing.now c.requires.place
    (item_at c.args.items.now c.args.place c.index-items-place.result Turn c.requires.place c.index-items-place.is c.in-Turn.is) c.requires.stands).1

pub returns-in-Back-clause-moved : goal.returns-in-Back-clause-moved
returns-in-Back-clause-moved c =
    let b = before_back (map rule_of_tree c.args.rules.now) c.args.items.now c.args.place c.args.standing.now c.requires.place c.in-Back.count
    (item_at c.args.items.now c.args.place c.index-items-place.result (Back c.in-Back.count) c.requires.place c.index-items-place.is c.in-Back.is) c.requires.stands in
    on_ok_weaker c.make_again.result
    (λ only. subst (λ t. IsMoved (map rule_of_tree c.args.rules.now) (shown_at c.args.items.now (c.args.place + 1) c.args.standing.now) (at c.args.items.now c.args.place t) c.args.place) (only b.trail b.steps) b.moved)
    c.make_again.ensures.trail

pub returns-in-Back-clause-stacks : goal.returns-in-Back-clause-stacks
returns-in-Back-clause-stacks c =
    let b = before_back (map rule_of_tree c.args.rules.now) c.args.items.now c.args.place c.args.standing.now c.requires.place c.in-Back.count
    (item_at c.args.items.now c.args.place c.index-items-place.result (Back c.in-Back.count) c.requires.place c.index-items-place.is c.in-Back.is) c.requires.stands in
    on_ok_weaker c.make_again.result (λ s. s ∙ b.stacks) c.make_again.ensures.stacks

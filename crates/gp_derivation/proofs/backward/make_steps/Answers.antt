use Rattle.std.proofs.Common.{◌≡◌, ◌∙◌, map, take, refl, ap, subst, arith}
use Rattle.std.proofs.lemmas.List.{length-take-le, drop_all}
use Rattle.std.proofs.lemmas.Option.{slice_get-get_or}
use Rattle.gp_syntax.specs.Tree.{rule_of_tree}
use Rattle.gp_journal.specs.Trail.{back_by}
use Rattle.gp_journal.specs.Journal.{items_of}
use Rattle.gp_journal.proofs.Trails.{goes_by_step, only_by_step}
use Rattle.gp_derivation.specs.inside.Stands.{StepsOn}
use Rattle.gp_derivation.proofs.StepperStacks.{found_next, applies_next, step_more, steps_depth, steps_back}
use Rattle.gp_derivation.proofs.backward.make_steps.Goals as goal

pub found_of-requires : goal.found_of-requires
found_of-requires c = found_next (map rule_of_tree c.args.rules.now) (items_of c.args.items.now) c.args.numbers.now c.loop-made.made _ c.loop-made.trail (slice_get-get_or c.args.numbers.now c.loop-made.made 0 c.loop-made-test.true) c.loop-made.invariant.onward

pub advance-requires : goal.advance-requires
advance-requires c =
    applies_next (map rule_of_tree c.args.rules.now) (items_of c.args.items.now) c.args.numbers.now c.loop-made.made _ c.found_of.result.now c.loop-made.trail (slice_get-get_or c.args.numbers.now c.loop-made.made 0 c.loop-made-test.true) c.found_of.ensures
    c.loop-made.invariant.onward

pub back-requires : goal.back-requires
back-requires c =
    let d = steps_depth (map rule_of_tree c.args.rules.now) (items_of c.args.items.now) (take c.loop-made.made c.args.numbers.now) c.args.trail.now c.loop-made.trail c.loop-made.invariant.so_far in
    let l = length-take-le c.loop-made.made c.args.numbers.now c.loop-made.auto.made-end in
    rw c.in-Err.ensures.err (omega (arith, d, l))

pub loop-made-init : goal.loop-made-init
loop-made-init c = record { so_far = refl; onward = c.requires; only = λ t s. s }

pub loop-made-preserved : goal.loop-made-preserved
loop-made-preserved c =
    let rules = map rule_of_tree c.args.rules.now in
    step_more rules (items_of c.args.items.now) c.args.numbers.now c.loop-made.made _ c.found_of.result.now c.args.trail.now c.loop-made.trail c.advance.new.self (slice_get-get_or c.args.numbers.now c.loop-made.made 0 c.loop-made-test.true) c.found_of.ensures
    (record {
      goes = goes_by_step rules c.loop-made.trail c.advance.new.self c.found_of.result.now c.in-Ok.ensures.ok c.in-Ok.ensures.step;
      only = only_by_step rules c.loop-made.trail c.advance.new.self c.found_of.result.now c.in-Ok.ensures.ok c.in-Ok.ensures.only;
    })
    c.loop-made.invariant.so_far c.loop-made.invariant.onward c.loop-made.invariant.only

pub returns-in-Err-clause-err : goal.returns-in-Err-clause-err
returns-in-Err-clause-err c =
    let l = length-take-le c.loop-made.made c.args.numbers.now c.loop-made.auto.made-end in
    c.back.ensures.back ∙ ap (back_by c.loop-made.made) c.in-Err.ensures.err
    ∙ subst (λ k. back_by k c.loop-made.trail ≡ c.args.trail.now) l (steps_back (map rule_of_tree c.args.rules.now) (items_of c.args.items.now) (take c.loop-made.made c.args.numbers.now) c.args.trail.now c.loop-made.trail c.loop-made.invariant.so_far)

pub returns-clause-ok : goal.returns-clause-ok
returns-clause-ok c = λ t s.
    subst (λ ns. StepsOn (map rule_of_tree c.args.rules.now) (items_of c.args.items.now) ns c.loop-made.trail t) (drop_all c.loop-made.made c.args.numbers.now c.loop-made-test.false) (c.loop-made.invariant.only t s)

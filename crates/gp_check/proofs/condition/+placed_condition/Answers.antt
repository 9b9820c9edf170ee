use Rattle.std.proofs.Common.{◌≡◌, ◌<◌, Some, slice_get, fold, sym, ap, ◌∙◌, arith}
use Rattle.gp_syntax.specs.Expression.{Not}
use Rattle.gp_syntax.specs.Tree.{condition_of, pattern_of}
use Rattle.gp_syntax.proofs.Trees.{condition_of-Not}
use Rattle.gp_clauses.specs.Size.{condition_size}
use Rattle.gp_clauses.specs.ConditionShapes.{named_condition, connected}
use Rattle.gp_clauses.proofs.Walks.{fold_step, fold_ended, item_at}
use Rattle.gp_check.specs.inside.Placed.{placed_condition_in}
use Rattle.gp_check.proofs.Placing.{is_test, with_placed_part, placed_condition_chain}
use Rattle.gp_check.proofs.condition.+placed_condition.Goals as goal

pub returns-in_ok-new-in-Not : goal.returns-in_ok-new-in-Not
returns-in_ok-new-in-Not t c =
    condition_of-Not pattern_of c.in_ok-new-in-Not.field-0 ∙ ap (λ x. Not (condition_of pattern_of x)) c.in_ok-new-in-Not.ensures ∙ ap Not c.in_ok-part-in-Not.ensures ∙ ap (placed_condition_in c.args.places) (sym c.in-Not.ensures.whole)

pub returns-after-parts : goal.returns-after-parts
returns-after-parts t c =
    let ds = c.in-Chain.rest.now in
    sym (fold_ended (with_placed_part c.args.places c.in-Chain.by) ds c.parts.part-index (condition_of pattern_of c.parts.total) c.parts-test.false) ∙ c.parts.invariant
    ∙ ap (λ x. fold (with_placed_part c.args.places c.in-Chain.by) x ds) c.in_ok-total-in-Chain.ensures ∙ sym (placed_condition_chain c.args.places c.in-Chain.by (named_condition c.in-Chain.first.now) ds)
    ∙ ap (placed_condition_in c.args.places) (sym c.in-Chain.ensures.whole)

pub placed_condition-requires : goal.placed_condition-requires
placed_condition-requires t c =
    let l : condition_size c.in-Not.part.now < condition_size c.args.c.now = c.in-Not.ensures.smaller in
    (omega arith, tt)

pub placed_condition-requires-in-Chain : goal.placed_condition-requires-in-Chain
placed_condition-requires-in-Chain t c =
    let l : condition_size c.in-Chain.first.now < condition_size c.args.c.now = c.in-Chain.ensures.smaller.0 in
    (omega arith, tt)

pub placed_condition-requires-in-parts : goal.placed_condition-requires-in-parts
placed_condition-requires-in-parts t c =
    let at : slice_get c.in-Chain.rest.now c.parts.part-index ≡ Some c.part-item.result = item_at c.in-Chain.rest.now _ _ c.parts-test.true c.part-item.is in
    let l : condition_size c.part-item.result < condition_size c.args.c.now = c.in-Chain.ensures.smaller.1 c.parts.part-index _ at in
    (omega arith, tt)

pub parts-preserved : goal.parts-preserved
parts-preserved t c =
    let at : slice_get c.in-Chain.rest.now c.parts.part-index ≡ Some c.part-item.result = item_at c.in-Chain.rest.now _ _ c.parts-test.true c.part-item.is in
    fold_step (with_placed_part c.args.places c.in-Chain.by) c.in-Chain.rest.now c.parts.part-index _ (condition_of pattern_of c.parts.total) _ _ at
    (c.in_ok-total-in-Chain-2.ensures ∙ ap (connected c.in-Chain.by (condition_of pattern_of c.parts.total)) c.in_ok-next-in-Chain.ensures) c.parts.invariant

pub placed_test-requires : goal.placed_test-requires
placed_test-requires t c = is_test c.condition_shape_of-shape.result c.in_default.not-Not c.in_default.not-Chain

pub returns-in_default : goal.returns-in_default
returns-in_default t c = rw (ap (placed_condition_in c.args.places) (sym c.condition_shape_of-shape.ensures.whole)) at c.placed_test.ensures

use Rattle.std.proofs.Common.{◌≡◌, ◌<◌, ◌∙◌, Some, slice_get, sym, arith}
use Rattle.gp_clauses.specs.Size.{condition_size}
use Rattle.gp_clauses.specs.ConditionShapes.{named_condition}
use Rattle.gp_clauses.proofs.Walks.{all_on, all_fails, all_ended, item_at}
use Rattle.gp_clauses.proofs.Parts.{marks_chain, part_has_marks}
use Rattle.gp_clauses.proofs.marks.+condition_has_marks.Goals as goal

pub returns-then-not-condition_has_marks : goal.returns-then-not-condition_has_marks
returns-then-not-condition_has_marks t c =
    rw (c.in-Chain.ensures.whole, marks_chain c.in-Chain.field-0 (named_condition c.in-Chain.first.now) c.in-Chain.rest.now, ← c.condition_has_marks-in-Chain.ensures, c.if-not-condition_has_marks.true)

pub condition_has_marks-requires-in-parts : goal.condition_has_marks-requires-in-parts
condition_has_marks-requires-in-parts t c =
    let at : slice_get c.in-Chain.rest.now c.parts.part-index ≡ Some c.part-item.result = item_at c.in-Chain.rest.now _ _ c.parts-test.true c.part-item.is in
    let l : condition_size c.part-item.result < condition_size c.args.c.now = c.in-Chain.ensures.smaller.1 c.parts.part-index _ at in
    (omega arith, tt)

pub returns-then-not-condition_has_marks-2 : goal.returns-then-not-condition_has_marks-2
returns-then-not-condition_has_marks-2 t c =
    let ds = c.in-Chain.rest.now in
    rw (c.in-Chain.ensures.whole, marks_chain c.in-Chain.field-0 (named_condition c.in-Chain.first.now) ds, ← c.condition_has_marks-in-Chain.ensures, c.if-not-condition_has_marks.false)
    (sym (sym c.parts.invariant ∙ all_fails part_has_marks ds c.parts.part-index _ (item_at ds _ _ c.parts-test.true c.part-item.is) (sym c.condition_has_marks-in-parts.ensures ∙ c.if-not-condition_has_marks-2.true)))

pub returns-after-parts : goal.returns-after-parts
returns-after-parts t c =
    let ds = c.in-Chain.rest.now in
    rw (c.in-Chain.ensures.whole, marks_chain c.in-Chain.field-0 (named_condition c.in-Chain.first.now) ds, ← c.condition_has_marks-in-Chain.ensures, c.if-not-condition_has_marks.false)
    (sym (sym c.parts.invariant ∙ all_ended part_has_marks ds c.parts.part-index c.parts-test.false))

pub condition_has_marks-requires : goal.condition_has_marks-requires
condition_has_marks-requires t c =
    let l : condition_size c.in-Not.part.now < condition_size c.args.c.now = c.in-Not.ensures.smaller in
    (omega arith, tt)

pub condition_has_marks-requires-in-Chain : goal.condition_has_marks-requires-in-Chain
condition_has_marks-requires-in-Chain t c =
    let l : condition_size c.in-Chain.first.now < condition_size c.args.c.now = c.in-Chain.ensures.smaller.0 in
    (omega arith, tt)

pub parts-preserved : goal.parts-preserved
parts-preserved t c =
    let ds = c.in-Chain.rest.now in
    all_on part_has_marks ds c.parts.part-index _ (item_at ds _ _ c.parts-test.true c.part-item.is) (sym c.condition_has_marks-in-parts.ensures ∙ c.if-not-condition_has_marks-2.false) ∙ c.parts.invariant

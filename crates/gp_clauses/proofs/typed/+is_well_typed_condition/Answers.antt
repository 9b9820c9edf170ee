use Rattle.std.proofs.Common.{◌≡◌, ◌<◌, ◌∙◌, Some, slice_get, sym, arith}
use Rattle.gp_clauses.specs.Size.{condition_size}
use Rattle.gp_clauses.specs.inside.Tables.{type_by}
use Rattle.gp_clauses.specs.ConditionShapes.{named_condition}
use Rattle.gp_clauses.proofs.Walks.{all_on, all_fails, all_ended, item_at}
use Rattle.gp_clauses.proofs.Parts.{typed_chain, is_typed_part}
use Rattle.gp_clauses.proofs.typed.+is_well_typed_condition.Goals as goal

pub returns-then-not-is_well_typed_condition : goal.returns-then-not-is_well_typed_condition
returns-then-not-is_well_typed_condition t c =
    let p = type_by c.args.variables.now in
    rw (c.in-Chain.ensures.whole, typed_chain p c.in-Chain.field-0 (named_condition c.in-Chain.first.now) c.in-Chain.rest.now, ← c.is_well_typed_condition-in-Chain.ensures, c.if-not-is_well_typed_condition.true)

pub is_well_typed_condition-requires-in-parts : goal.is_well_typed_condition-requires-in-parts
is_well_typed_condition-requires-in-parts t c =
    let at : slice_get c.in-Chain.rest.now c.parts.part-index ≡ Some c.part-item.result = item_at c.in-Chain.rest.now _ _ c.parts-test.true c.part-item.is in
    let l : condition_size c.part-item.result < condition_size c.args.c.now = c.in-Chain.ensures.smaller.1 c.parts.part-index _ at in
    (omega arith, tt)

pub returns-then-not-is_well_typed_condition-2 : goal.returns-then-not-is_well_typed_condition-2
returns-then-not-is_well_typed_condition-2 t c =
    let p = type_by c.args.variables.now in
    let ds = c.in-Chain.rest.now in
    rw (c.in-Chain.ensures.whole, typed_chain p c.in-Chain.field-0 (named_condition c.in-Chain.first.now) ds, ← c.is_well_typed_condition-in-Chain.ensures, c.if-not-is_well_typed_condition.false)
    (sym (sym c.parts.invariant ∙ all_fails (is_typed_part p) ds c.parts.part-index _ (item_at ds _ _ c.parts-test.true c.part-item.is) (sym c.is_well_typed_condition-in-parts.ensures ∙ c.if-not-is_well_typed_condition-2.true)))

pub returns-after-parts : goal.returns-after-parts
returns-after-parts t c =
    let p = type_by c.args.variables.now in
    let ds = c.in-Chain.rest.now in
    rw (c.in-Chain.ensures.whole, typed_chain p c.in-Chain.field-0 (named_condition c.in-Chain.first.now) ds, ← c.is_well_typed_condition-in-Chain.ensures, c.if-not-is_well_typed_condition.false)
    (sym (sym c.parts.invariant ∙ all_ended (is_typed_part p) ds c.parts.part-index c.parts-test.false))

pub is_well_typed_condition-requires : goal.is_well_typed_condition-requires
is_well_typed_condition-requires t c =
    let l : condition_size c.in-Not.part.now < condition_size c.args.c.now = c.in-Not.ensures.smaller in
    (omega arith, tt)

pub is_well_typed_condition-requires-in-Chain : goal.is_well_typed_condition-requires-in-Chain
is_well_typed_condition-requires-in-Chain t c =
    let l : condition_size c.in-Chain.first.now < condition_size c.args.c.now = c.in-Chain.ensures.smaller.0 in
    (omega arith, tt)

pub parts-preserved : goal.parts-preserved
parts-preserved t c =
    let ds = c.in-Chain.rest.now in
    all_on (is_typed_part (type_by c.args.variables.now)) ds c.parts.part-index _ (item_at ds _ _ c.parts-test.true c.part-item.is) (sym c.is_well_typed_condition-in-parts.ensures ∙ c.if-not-is_well_typed_condition-2.false) ∙ c.parts.invariant

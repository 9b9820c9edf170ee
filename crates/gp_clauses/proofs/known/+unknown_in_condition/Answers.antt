use Rattle.std.proofs.Common.{◌≡◌, ◌<◌, Some, slice_get, refl, sym, ap, ◌∙◌, arith}
use Rattle.std.specs.Option.{option_or}
use Rattle.std.proofs.lemmas.Option.{slice_get_read}
use Rattle.gp_syntax.specs.Tree.{expression_of}
use Rattle.gp_syntax.specs.Fault.{first_told}
use Rattle.gp_clauses.specs.Size.{condition_size}
use Rattle.gp_clauses.specs.ConditionShapes.{named_condition}
use Rattle.gp_clauses.proofs.Walks.{untold, told_here, told_ended, item_at}
use Rattle.gp_clauses.proofs.Knowns.{unknown_in_part, unknown_condition_chain, unknown-Compared, told_or}
use Rattle.gp_clauses.proofs.known.+unknown_in_condition.Goals as goal

pub returns-in-Some : goal.returns-in-Some
returns-in-Some t c =
    rw (c.in-Chain.ensures.whole, unknown_condition_chain c.args.known c.in-Chain.field-0 (named_condition c.in-Chain.first.now) c.in-Chain.rest.now) (ap (λ o. option_or o (first_told (unknown_in_part c.args.known) c.in-Chain.rest.now)) c.in-Some.ensures)

pub returns-in-Compared : goal.returns-in-Compared
returns-in-Compared t c =
    rw (c.in-Compared.ensures.whole, unknown-Compared c.args.known c.in-Compared.field-0 (expression_of c.in-Compared.d.now) (expression_of c.in-Compared.e.now)) (told_or _ _ _ _ _ c.or-in-Compared.ensures c.unknown_in-in-Compared.ensures c.unknown_in-in-Compared-2.ensures)

pub returns-in-Some-unknown_in_condition : goal.returns-in-Some-unknown_in_condition
returns-in-Some-unknown_in_condition t c =
    let ds = c.in-Chain.rest.now in
    let at : slice_get ds c.parts.part-index ≡ Some c.part-item.result = slice_get_read ds _ _ _ refl c.parts-test.true c.part-item.is in
    rw (c.in-Chain.ensures.whole, unknown_condition_chain c.args.known c.in-Chain.field-0 (named_condition c.in-Chain.first.now) ds, ← c.in_default.ensures)
    (sym (told_here (unknown_in_part c.args.known) ds c.parts.part-index _ _ at (sym c.in-Some-unknown_in_condition.ensures)) ∙ c.parts.invariant)

pub returns-after-parts : goal.returns-after-parts
returns-after-parts t c =
    let ds = c.in-Chain.rest.now in
    rw (c.in-Chain.ensures.whole, unknown_condition_chain c.args.known c.in-Chain.field-0 (named_condition c.in-Chain.first.now) ds, ← c.in_default.ensures)
    (sym (told_ended (unknown_in_part c.args.known) ds c.parts.part-index (omega arith)) ∙ c.parts.invariant)

pub unknown_in_condition-requires : goal.unknown_in_condition-requires
unknown_in_condition-requires t c =
    let l : condition_size c.in-Not.part.now < condition_size c.args.c.now = c.in-Not.ensures.smaller in
    (omega arith, tt)

pub unknown_in_condition-requires-in-Chain : goal.unknown_in_condition-requires-in-Chain
unknown_in_condition-requires-in-Chain t c =
    let l : condition_size c.in-Chain.first.now < condition_size c.args.c.now = c.in-Chain.ensures.smaller.0 in
    (omega arith, tt)

pub unknown_in_condition-requires-in-parts : goal.unknown_in_condition-requires-in-parts
unknown_in_condition-requires-in-parts t c =
    let at : slice_get c.in-Chain.rest.now c.parts.part-index ≡ Some c.part-item.result = item_at c.in-Chain.rest.now _ _ c.parts-test.true c.part-item.is in
    let l : condition_size c.part-item.result < condition_size c.args.c.now = c.in-Chain.ensures.smaller.1 c.parts.part-index _ at in
    (omega arith, tt)

pub parts-preserved : goal.parts-preserved
parts-preserved t c =
    let ds = c.in-Chain.rest.now in
    untold (unknown_in_part c.args.known) ds c.parts.part-index _ (item_at ds _ _ c.parts-test.true c.part-item.is) (sym c.in_default-unknown_in_condition.ensures) ∙ c.parts.invariant

use Rattle.std.proofs.Common.{◌<◌, fold, sym, ap, ◌∙◌, arith}
use Rattle.gp_syntax.specs.Expression.{Variable, Text}
use Rattle.gp_syntax.specs.Tree.{expression_of, label_of}
use Rattle.gp_syntax.proofs.Trees.{label_of-Text, label_of-Variable, label_of-Empty}
use Rattle.gp_clauses.specs.Shapes.{operands}
use Rattle.gp_clauses.specs.Size.{size}
use Rattle.gp_clauses.proofs.Walks.{fold_step, fold_ended}
use Rattle.gp_check.specs.inside.Placed.{placed_in}
use Rattle.gp_check.proofs.Placing.{with_placed, placed_chain, plain_chain, negated_numeral, numeral_placed}
use Rattle.gp_check.proofs.expression.+label.Goals as goal

pub returns-in-Number : goal.returns-in-Number
returns-in-Number t c = c.number_label.ensures ∙ ap (placed_in c.args.places) (sym c.in-Number.ensures.whole)

pub returns-in_ok-copy-in-Text : goal.returns-in_ok-copy-in-Text
returns-in_ok-copy-in-Text t c = label_of-Text _ ∙ ap Text c.in_ok-copy-in-Text.ensures ∙ ap (placed_in c.args.places) (sym c.in-Text.ensures.whole)

pub returns-in_ok-variable-in-Variable : goal.returns-in_ok-variable-in-Variable
returns-in_ok-variable-in-Variable t c = label_of-Variable _ ∙ ap Variable c.in_ok-variable-in-Variable.ensures ∙ ap (placed_in c.args.places) (sym c.in-Variable.ensures.whole)

pub returns-in-Empty : goal.returns-in-Empty
returns-in-Empty t c = label_of-Empty ∙ ap (placed_in c.args.places) (sym c.in-Empty.ensures.whole)

pub label-requires : goal.label-requires
label-requires t c =
    let p = plain_chain (expression_of c.in-Chain.first.now) (operands c.in-Chain.links) (rw c.in-Chain.ensures.whole at c.requires) in
    let l : size c.in-Chain.first.now < size c.args.e.now = c.in-Chain.ensures.smaller.0 in
    (omega arith, p.0)

pub label-requires-in-operands : goal.label-requires-in-operands
label-requires-in-operands t c =
    let p = (plain_chain (expression_of c.in-Chain.first.now) (operands c.in-Chain.links) (rw c.in-Chain.ensures.whole at c.requires)).1 c.operands.at _ c.get-operation.ensures in
    let l : size c.get-operation.result.1.now < size c.args.e.now = c.in-Chain.ensures.smaller.1 c.operands.at _ c.get-operation.ensures in
    (omega arith, p.operand)

pub with_label-requires : goal.with_label-requires
with_label-requires t c = ((plain_chain (expression_of c.in-Chain.first.now) (operands c.in-Chain.links) (rw c.in-Chain.ensures.whole at c.requires)).1 c.operands.at _ c.get-operation.ensures).joining

pub operands-preserved : goal.operands-preserved
operands-preserved t c =
    fold_step (with_placed c.args.places) (operands c.in-Chain.links) c.operands.at _ (label_of c.operands.total) _ _ c.get-operation.ensures (rw c.in_ok-next-in-Chain.ensures at c.in_ok-total-in-Chain-2.ensures) c.operands.invariant

pub returns-after-operands : goal.returns-after-operands
returns-after-operands t c =
    sym (fold_ended (with_placed c.args.places) (operands c.in-Chain.links) c.operands.at (label_of c.operands.total) (omega arith)) ∙ c.operands.invariant
    ∙ ap (λ d. fold (with_placed c.args.places) d (operands c.in-Chain.links)) c.in_ok-total-in-Chain.ensures ∙ sym (placed_chain c.args.places (expression_of c.in-Chain.first.now) (operands c.in-Chain.links))
    ∙ ap (placed_in c.args.places) (sym c.in-Chain.ensures.whole)

pub negated_label-requires : goal.negated_label-requires
negated_label-requires t c = negated_numeral (expression_of c.in-Negated.operand.now) (rw c.in-Negated.ensures.whole at c.requires)

pub returns-in-Negated : goal.returns-in-Negated
returns-in-Negated t c =
    c.negated_label.ensures ∙ numeral_placed c.args.places (expression_of c.in-Negated.operand.now) (negated_numeral (expression_of c.in-Negated.operand.now) (rw c.in-Negated.ensures.whole at c.requires))
    ∙ ap (placed_in c.args.places) (sym c.in-Negated.ensures.whole)

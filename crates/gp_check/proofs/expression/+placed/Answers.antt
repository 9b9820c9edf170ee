use Rattle.std.proofs.Common.{ℕ, ◌<◌, fold, sym, ap, ◌∙◌, arith}
use Rattle.gp_syntax.specs.Expression.{Negated, Variable, In_degree, Out_degree, Length_of, Text}
use Rattle.gp_syntax.specs.Tree.{expression_of}
use Rattle.gp_syntax.proofs.Trees.{expression_of-Text, expression_of-Variable, expression_of-InDegree, expression_of-OutDegree, expression_of-Length, expression_of-Empty, expression_of-Negated}
use Rattle.gp_clauses.specs.Shapes.{operands}
use Rattle.gp_clauses.specs.Size.{size}
use Rattle.gp_clauses.proofs.Walks.{fold_step, fold_ended}
use Rattle.gp_check.specs.inside.Placed.{placed_in}
use Rattle.gp_check.proofs.Placing.{with_placed, placed_chain}
use Rattle.gp_check.proofs.expression.+placed.Goals as goal

pub returns-in-Number : goal.returns-in-Number
returns-in-Number t c = c.number.ensures ∙ ap (placed_in c.args.places) (sym c.in-Number.ensures.whole)

pub returns-in_ok-copy-in-Text : goal.returns-in_ok-copy-in-Text
returns-in_ok-copy-in-Text t c = expression_of-Text {R = ℕ} _ ∙ ap Text c.in_ok-copy-in-Text.ensures ∙ ap (placed_in c.args.places) (sym c.in-Text.ensures.whole)

pub returns-in-Empty : goal.returns-in-Empty
returns-in-Empty t c = expression_of-Empty {R = ℕ} ∙ ap (placed_in c.args.places) (sym c.in-Empty.ensures.whole)

pub returns-in_ok-new-in-Negated : goal.returns-in_ok-new-in-Negated
returns-in_ok-new-in-Negated t c =
    expression_of-Negated _ ∙ ap (λ x. Negated (expression_of x)) c.in_ok-new-in-Negated.ensures ∙ ap Negated c.in_ok-negated-in-Negated.ensures ∙ ap (placed_in c.args.places) (sym c.in-Negated.ensures.whole)

pub placed-requires-in-operands : goal.placed-requires-in-operands
placed-requires-in-operands t c =
    let l : size c.get-operation.result.1.now < size c.args.e.now = c.in-Chain.ensures.smaller.1 c.operands.at _ c.get-operation.ensures in
    (omega arith, tt)

pub placed-requires : goal.placed-requires
placed-requires t c =
    let l : size c.in-Negated.operand.now < size c.args.e.now = c.in-Negated.ensures.smaller in
    (omega arith, tt)

pub placed-requires-in-Chain : goal.placed-requires-in-Chain
placed-requires-in-Chain t c =
    let l : size c.in-Chain.first.now < size c.args.e.now = c.in-Chain.ensures.smaller.0 in
    (omega arith, tt)

pub operands-preserved : goal.operands-preserved
operands-preserved t c =
    fold_step (with_placed c.args.places) (operands c.in-Chain.links) c.operands.at _ (expression_of c.operands.total) _ _ c.get-operation.ensures (rw c.in_ok-next-in-Chain.ensures at c.in_ok-total-in-Chain-2.ensures) c.operands.invariant

pub returns-after-operands : goal.returns-after-operands
returns-after-operands t c =
    sym (fold_ended (with_placed c.args.places) (operands c.in-Chain.links) c.operands.at (expression_of c.operands.total) (omega arith)) ∙ c.operands.invariant
    ∙ ap (λ d. fold (with_placed c.args.places) d (operands c.in-Chain.links)) c.in_ok-total-in-Chain.ensures ∙ sym (placed_chain c.args.places (expression_of c.in-Chain.first.now) (operands c.in-Chain.links))
    ∙ ap (placed_in c.args.places) (sym c.in-Chain.ensures.whole)

pub returns-in_ok-variable-in-Variable : goal.returns-in_ok-variable-in-Variable
returns-in_ok-variable-in-Variable t c = expression_of-Variable {R = ℕ} _ ∙ ap Variable c.in_ok-variable-in-Variable.ensures ∙ ap (placed_in c.args.places) (sym c.in-Variable.ensures.whole)

pub returns-in_ok-node-in-InDegree : goal.returns-in_ok-node-in-InDegree
returns-in_ok-node-in-InDegree t c = expression_of-InDegree {R = ℕ} _ ∙ ap In_degree c.in_ok-node-in-InDegree.ensures ∙ ap (placed_in c.args.places) (sym c.in-InDegree.ensures.whole)

pub returns-in_ok-node-in-OutDegree : goal.returns-in_ok-node-in-OutDegree
returns-in_ok-node-in-OutDegree t c = expression_of-OutDegree {R = ℕ} _ ∙ ap Out_degree c.in_ok-node-in-OutDegree.ensures ∙ ap (placed_in c.args.places) (sym c.in-OutDegree.ensures.whole)

pub returns-in_ok-variable-in-Length : goal.returns-in_ok-variable-in-Length
returns-in_ok-variable-in-Length t c = expression_of-Length {R = ℕ} _ ∙ ap Length_of c.in_ok-variable-in-Length.ensures ∙ ap (placed_in c.args.places) (sym c.in-Length.ensures.whole)

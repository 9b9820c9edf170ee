use Rattle.std.proofs.Common.{rules, sym, ap, ◌∙◌}
use Rattle.gp_syntax.specs.Expression.{Negated}
use Rattle.gp_syntax.specs.Tree.{expression_of}
use Rattle.gp_clauses.specs.Shapes.{operands}
use Rattle.gp_check.specs.inside.Placed.{numeral}
use Rattle.gp_check.proofs.Placing.{numeral_chain, not_numeral}
use Rattle.gp_check.proofs.expression.+negated_label.Goals as goal

pub returns-in-Number : goal.returns-in-Number
returns-in-Number t c = c.negated_number.ensures ∙ ap (λ e. numeral (Negated e)) (sym c.in-Number.ensures.whole)

pub negated_label-requires : goal.negated_label-requires
negated_label-requires t c =
    let p = numeral_chain (expression_of c.in-Chain.first.now) (operands c.in-Chain.field-1) (rw c.in-Chain.ensures.whole at c.requires) in
    search rules

pub returns-in-Chain : goal.returns-in-Chain
returns-in-Chain t c =
    let p = numeral_chain (expression_of c.in-Chain.first.now) (operands c.in-Chain.field-1) (rw c.in-Chain.ensures.whole at c.requires) in
    c.negated_label.ensures ∙ ap (λ e. numeral (Negated e)) (sym p.0 ∙ sym c.in-Chain.ensures.whole)

pub unreachable-requires : goal.unreachable-requires
unreachable-requires t c = not_numeral c.shape_of.result (rw c.shape_of.ensures.whole at c.requires) c.in_default.not-Number c.in_default.not-Chain

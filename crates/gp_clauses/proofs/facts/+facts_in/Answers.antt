use Rattle.std.proofs.Common.{◌<◌, refl, sym, subst, ap, ◌∙◌, arith}
use Rattle.gp_syntax.specs.Tree.{expression_of}
use Rattle.gp_clauses.specs.Shapes.{operands}
use Rattle.gp_clauses.specs.Size.{size}
use Rattle.gp_clauses.specs.Facts.{facts_of, negated}
use Rattle.gp_clauses.specs.inside.Tables.{type_by}
use Rattle.gp_clauses.proofs.Walks.{fold_step, fold_ended}
use Rattle.gp_clauses.proofs.Told.{facts-Negated, facts_chain, with_facts, AreSmall, small_facts, small_combined}
use Rattle.gp_clauses.proofs.facts.+facts_in.Goals as goal

pub returns-in-Negated : goal.returns-in-Negated
returns-in-Negated t c =
    c.negated.ensures ∙ ap negated c.facts_in.ensures ∙ sym (facts-Negated (type_by c.args.variables.now) (expression_of c.in-Negated.operand.now)) ∙ ap (facts_of (type_by c.args.variables.now)) (sym c.in-Negated.ensures.whole)

pub operands-init : goal.operands-init
operands-init t c =
    (refl, subst AreSmall (sym c.facts_in-total.ensures) (small_facts (type_by c.args.variables.now) (expression_of c.in-Chain.first.now)))

pub operands-preserved : goal.operands-preserved
operands-preserved t c =
    (fold_step (with_facts (type_by c.args.variables.now)) (operands c.in-Chain.links) c.operands.at _ c.operands.total _ _ c.get-operation.ensures (rw c.facts_in-next.ensures at c.combined-total.ensures) c.operands.invariant.0, subst AreSmall (sym c.combined-total.ensures) (small_combined c.get-operation.result.0 c.operands.total c.facts_in-next.result))

pub facts_in-next-requires : goal.facts_in-next-requires
facts_in-next-requires t c =
    let l : size c.get-operation.result.1.now < size c.args.e.now = c.in-Chain.ensures.smaller.1 c.operands.at _ c.get-operation.ensures in
    (omega arith, tt)

pub combined-total-requires : goal.combined-total-requires
combined-total-requires t c =
    let a = c.operands.invariant.1 in
    let b : AreSmall c.facts_in-next.result = subst AreSmall (sym c.facts_in-next.ensures) (small_facts (type_by c.args.variables.now) (expression_of c.get-operation.result.1.now)) in
    record { lists = omega arith; strings = omega arith }

pub returns-after-operands : goal.returns-after-operands
returns-after-operands t c =
    rw (c.in-Chain.ensures.whole, facts_chain (type_by c.args.variables.now) (expression_of c.in-Chain.first.now) (operands c.in-Chain.links), ← c.facts_in-total.ensures)
    (sym (fold_ended (with_facts (type_by c.args.variables.now)) (operands c.in-Chain.links) c.operands.at c.operands.total (omega arith)) ∙ c.operands.invariant.0)

pub facts_in-requires : goal.facts_in-requires
facts_in-requires t c =
    let l : size c.in-Negated.operand.now < size c.args.e.now = c.in-Negated.ensures.smaller in
    (omega arith, tt)

pub facts_in-total-requires : goal.facts_in-total-requires
facts_in-total-requires t c =
    let l : size c.in-Chain.first.now < size c.args.e.now = c.in-Chain.ensures.smaller.0 in
    (omega arith, tt)

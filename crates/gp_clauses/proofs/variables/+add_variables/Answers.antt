use Rattle.std.proofs.Common.{◌<◌, sym, ◌∙◌, arith}
use Rattle.gp_syntax.specs.Tree.{expression_of}
use Rattle.gp_clauses.specs.Shapes.{operands}
use Rattle.gp_clauses.specs.Size.{size}
use Rattle.gp_clauses.specs.inside.Tables.{with_operand_names}
use Rattle.gp_clauses.proofs.Walks.{fold_step, fold_ended}
use Rattle.gp_clauses.proofs.Tables.{variables_chain}
use Rattle.gp_clauses.proofs.variables.+add_variables.Goals as goal

pub add_variables-requires-in-operands : goal.add_variables-requires-in-operands
add_variables-requires-in-operands t c =
    let l : size c.get.result.1.now < size c.args.e.now = c.in-Chain.ensures.smaller.1 c.operands.at _ c.get.ensures in
    (omega arith, tt)

pub operands-preserved : goal.operands-preserved
operands-preserved t c =
    fold_step with_operand_names (operands c.in-Chain.links) c.operands.at _ c.operands.table _ _ c.get.ensures c.in_ok-add_variables-in-Chain-2.ensures c.operands.invariant

pub returns-after-operands : goal.returns-after-operands
returns-after-operands t c =
    rw (c.in-Chain.ensures.whole, variables_chain c.args.table.now (expression_of c.in-Chain.first.now) (operands c.in-Chain.links), ← c.in_ok-add_variables-in-Chain.ensures)
    (sym (fold_ended with_operand_names (operands c.in-Chain.links) c.operands.at c.operands.table (omega arith)) ∙ c.operands.invariant)

pub add_variables-requires : goal.add_variables-requires
add_variables-requires t c =
    let l : size c.in-Negated.operand.now < size c.args.e.now = c.in-Negated.ensures.smaller in
    (omega arith, tt)

pub add_variables-requires-in-Chain : goal.add_variables-requires-in-Chain
add_variables-requires-in-Chain t c =
    let l : size c.in-Chain.first.now < size c.args.e.now = c.in-Chain.ensures.smaller.0 in
    (omega arith, tt)

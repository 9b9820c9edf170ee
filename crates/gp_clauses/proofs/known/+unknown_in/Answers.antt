use Rattle.std.proofs.Common.{◌<◌, sym, ap, ◌∙◌, arith}
use Rattle.gp_syntax.specs.Tree.{expression_of}
use Rattle.gp_syntax.specs.Fault.{first_told}
use Rattle.std.specs.Option.{option_or}
use Rattle.gp_clauses.specs.Shapes.{operands}
use Rattle.gp_clauses.specs.Size.{size}
use Rattle.gp_clauses.proofs.Walks.{untold, told_here, told_ended}
use Rattle.gp_clauses.proofs.Knowns.{unknown_at, unknown_chain}
use Rattle.gp_clauses.proofs.known.+unknown_in.Goals as goal

pub returns-in-Some : goal.returns-in-Some
returns-in-Some t c =
    rw (c.in-Chain.ensures.whole, unknown_chain c.args.known (expression_of c.in-Chain.first.now) (operands c.in-Chain.links)) (ap (λ o. option_or o (first_told (unknown_at c.args.known) (operands c.in-Chain.links))) c.in-Some.ensures)

pub unknown_in-requires-in-operands : goal.unknown_in-requires-in-operands
unknown_in-requires-in-operands t c =
    let l : size c.get.result.1.now < size c.args.e.now = c.in-Chain.ensures.smaller.1 c.operands.at _ c.get.ensures in
    (omega arith, tt)

pub operands-preserved : goal.operands-preserved
operands-preserved t c =
    untold (unknown_at c.args.known) (operands c.in-Chain.links) c.operands.at _ c.get.ensures (sym c.in_default-unknown_in-2.ensures) ∙ c.operands.invariant

pub returns-in-Some-unknown_in : goal.returns-in-Some-unknown_in
returns-in-Some-unknown_in t c =
    rw (c.in-Chain.ensures.whole, unknown_chain c.args.known (expression_of c.in-Chain.first.now) (operands c.in-Chain.links), ← c.in_default-unknown_in.ensures)
    (sym (told_here (unknown_at c.args.known) (operands c.in-Chain.links) c.operands.at _ _ c.get.ensures (sym c.in-Some-unknown_in.ensures)) ∙ c.operands.invariant)

pub returns-after-operands : goal.returns-after-operands
returns-after-operands t c =
    rw (c.in-Chain.ensures.whole, unknown_chain c.args.known (expression_of c.in-Chain.first.now) (operands c.in-Chain.links), ← c.in_default-unknown_in.ensures)
    (sym (told_ended (unknown_at c.args.known) (operands c.in-Chain.links) c.operands.at (omega arith)) ∙ c.operands.invariant)

pub unknown_in-requires : goal.unknown_in-requires
unknown_in-requires t c =
    let l : size c.in-Negated.operand.now < size c.args.e.now = c.in-Negated.ensures.smaller in
    (omega arith, tt)

pub unknown_in-requires-in-Chain : goal.unknown_in-requires-in-Chain
unknown_in-requires-in-Chain t c =
    let l : size c.in-Chain.first.now < size c.args.e.now = c.in-Chain.ensures.smaller.0 in
    (omega arith, tt)

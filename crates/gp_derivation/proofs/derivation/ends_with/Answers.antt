use Rattle.std.proofs.Common.{map}
use Rattle.std.proofs.lemmas.Result.{IfOk-weaker}
use Rattle.gp_syntax.specs.Tree.{program_of_tree, item_of}
use Rattle.gp_derivation.proofs.Decided.{with_failed, with_given, with_none}
use Rattle.gp_derivation.proofs.derivation.ends_with.Goals as goal

pub returns-then-ends_by_fail : goal.returns-then-ends_by_fail
returns-then-ends_by_fail c =
    with_failed (program_of_tree c.args.program.now) c.args.host.now.graph (map item_of c.args.items.now) c.args.text.now c.in_ok-checked.checked.fail c.ends_by_fail.result c.in_ok-checked.checked.graph
    c.in_ok-checked.ensures.fail c.in_ok-checked.ensures.graph c.ends_by_fail.ensures c.if-ends_by_fail.true

pub returns-in-Some : goal.returns-in-Some
returns-in-Some c =
    IfOk-weaker c.is_text_of.result _ _
    (λ b. with_given (program_of_tree c.args.program.now) c.args.host.now.graph (map item_of c.args.items.now) c.args.text.now c.in_ok-checked.checked.fail c.ends_by_fail.result c.in_ok-checked.checked.graph
    c.in_ok-checked.ensures.fail c.in_ok-checked.ensures.graph c.ends_by_fail.ensures c.in-Some.graph b c.if-ends_by_fail.false c.in-Some.is)
    c.is_text_of.ensures

pub returns : goal.returns
returns c =
    with_none (program_of_tree c.args.program.now) c.args.host.now.graph (map item_of c.args.items.now) c.args.text.now c.in_ok-checked.checked.fail c.ends_by_fail.result c.in_ok-checked.checked.graph
    c.in_ok-checked.ensures.fail c.in_ok-checked.ensures.graph c.ends_by_fail.ensures c.if-ends_by_fail.false c.in-None.is

use Rattle.std.specs.Cmp.{booleans_Decides}
use Rattle.std.proofs.Math.Bool.{beq}
use Rattle.std.proofs.lemmas.Bool.{not-false}
use Rattle.gp_eval.specs.Answer.{setting}
use Rattle.gp_independence.proofs.Deciding.{says_by}
use Rattle.gp_independence.proofs.preserved.says_again.Goals as goal

pub returns-in-Value : goal.returns-in-Value
returns-in-Value c =
    let root = (booleans_Decides c.args.right.now.root c.in-Some.root).0 (not-false (beq c.args.right.now.root c.in-Some.root) c.if-right-root.false) in
    says_by (setting c.args.assignment.now c.args.nodes.now c.args.graph.now.graph) c.args.place c.args.right.now (record { label = c.in-Some.list.now; mark = c.in-Some.mark; root = c.in-Some.root }) c.in-Value.label
    c.in-Some.ensures.found c.in-Value.ensures root c.keeps_mark.ensures c.if-not-keeps_mark.false c.eq.ensures

use Rattle.std.proofs.Common.{not, length, slice_index, sym, ap, ◌∙◌}
use Rattle.gp_eval.specs.Answer.{setting}
use Rattle.gp_match.specs.Tests.{has_number, implies}
use Rattle.gp_match.proofs.Loops.{one_fails, neither_one}
use Rattle.gp_independence.specs.inside.Tests.{is_preserved}
use Rattle.gp_independence.proofs.preserved.all_preserved.Goals as goal

pub returns-then-not-branch : goal.returns-then-not-branch
returns-then-not-branch c =
    let ns = c.args.nodes.now in
    let s = setting c.args.assignment.now ns c.args.graph.now.graph in
    one_fails (λ i. implies (has_number c.args.others.now (slice_index ns i)) (is_preserved s c.args.right.now i)) (length ns) c.nodes.place c.nodes-test.true
    (neither_one _ _ (ap not (sym c.contains.ensures.value ∙ c.if-contains.true)) (sym c.in_ok-is_preserved.ensures ∙ c.if-not-branch.true))

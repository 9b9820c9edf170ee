use Rattle.std.proofs.Common.{◌≡◌, ◌∷◌}
use Rattle.gp_graph.specs.Walks.{BeginsAt, EndsAt}
use Rattle.gp_run_cases.proofs.WalkLaws.{still_left, one_more_given}
use Rattle.gp_run_cases.proofs.graphs.edits.leads_only_to.Goals as goal

pub loop-e-preserved : goal.loop-e-preserved
loop-e-preserved c =
    let graph = c.args.graph.now.graph in
    let step : c.loop-e.e-iterator ≡ c.in-Some.e ∷ c.next.new.self = c.in-Some.ensures.steps in (
      tt,
      tt,
      still_left c.loop-e.e-iterator c.next.new.self c.in-Some.e (BeginsAt graph c.args.n) step c.loop-e.invariant.2,
      one_more_given c.into_iter-e-iterator.result c.loop-e.e-iterator c.next.new.self c.in-Some.e (EndsAt graph c.args.target) step c.loop-e.invariant.3 (rw c.in-Some-edge.ensures.found c.if-end-target.true),
    )

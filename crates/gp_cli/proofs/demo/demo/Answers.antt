use Rattle.std.proofs.Common.{false}
use Rattle.std.proofs.lemmas.Result.{err_from_is_err_and}
use Rattle.gp_words.specs.Told.{demo_now}
use Rattle.gp_cli.specs.Answer.{DemoAnswers}
use Rattle.gp_cli.proofs.Loads.{stopped_so}
use Rattle.gp_cli.proofs.Settled.{outcome_so}
use Rattle.gp_cli.proofs.Runs.{has_rule}
use Rattle.gp_cli.proofs.Demos.{ends}
use Rattle.gp_cli.proofs.demo.demo.Goals as goal

pub returns-in_err-program : goal.returns-in_err-program
returns-in_err-program g c =
    let p = err_from_is_err_and c.from_residual.result c.from_residual.ensures.1 in
    let k = demo_now c.args.command in
    rw (p.1, p.2) (stopped_so (DemoAnswers k) (DemoAnswers k) (λ said h. h) _ c.in_err-program.ensures)

pub demo_said-requires : goal.demo_said-requires
demo_said-requires g c = has_rule _ _ c.run-outcome.ensures

pub returns : goal.returns
returns g c =
    let both = c.in_ok-program.ensures in
    let k = demo_now c.args.command in
    rw c.or_stopped.ensures (outcome_so false (DemoAnswers k) (λ s is. ends k both.0 both.1 _ s c.run-outcome.ensures is) _ c.demo_said.ensures)

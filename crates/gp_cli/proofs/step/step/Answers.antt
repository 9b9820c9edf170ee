use Rattle.std.proofs.Common.{false}
use Rattle.std.proofs.lemmas.Result.{err_from_is_err_and}
use Rattle.gp_words.specs.Told.{step_now}
use Rattle.gp_cli.specs.Inputs.{StopsAtScript, behind_both}
use Rattle.gp_cli.specs.Answer.{StepAnswers, at_script}
use Rattle.gp_cli.specs.Loads.{StopsAtBoth}
use Rattle.gp_cli.proofs.Loads.{stopped_so, both_stop, script_since, has_script_since}
use Rattle.gp_cli.proofs.Runs.{told_so, has_rule, can_walk}
use Rattle.gp_cli.proofs.Settled.{outcome_so}
use Rattle.gp_cli.proofs.Stepped.{stepped}
use Rattle.gp_cli.proofs.step.step.Goals as goal

pub returns-in_err-program : goal.returns-in_err-program
returns-in_err-program g c =
    let p = err_from_is_err_and c.from_residual.result c.from_residual.ensures.1 in
    rw (p.1, p.2) (stopped_so (StopsAtBoth _ _ _ _) (StepAnswers _ _ (step_now c.args.command)) both_stop _ c.in_err-program.ensures.loads)

pub returns-in_err-script : goal.returns-in_err-script
returns-in_err-script g c =
    let p = err_from_is_err_and c.from_residual-in_err-script.result c.from_residual-in_err-script.ensures.1 in
    let both = c.in_ok-program.ensures in
    rw (p.1, p.2) (stopped_so (StopsAtScript _ _ _) (StepAnswers _ _ (step_now c.args.command))
    (λ said x. behind_both both.loads.0 both.loads.1 (at_script (script_since both.same both.later said x))) _ c.in_err-script.ensures.loads)

pub walked_or_ended-requires-clause-rule : goal.walked_or_ended-requires-clause-rule
walked_or_ended-requires-clause-rule g c = has_rule _ _ c.run-outcome.ensures

pub walked_or_ended-requires-clause-walk : goal.walked_or_ended-requires-clause-walk
walked_or_ended-requires-clause-walk g c = rw c.in_ok-host.ensures (can_walk _ c.run-outcome.ensures)

pub returns : goal.returns
returns g c =
    let both = c.in_ok-program.ensures in
    let k = step_now c.args.command in
    let has = has_script_since both.same c.in_ok-script.ensures.loads in
    let w = rw (c.deref.ensures.value, c.in_ok-host.ensures) at c.walked_or_ended.ensures in
    rw c.or_stopped.ensures (outcome_so false (StepAnswers _ _ k)
    (λ s x. told_so (stepped {k = k} has _ s c.run-outcome.ensures x) (λ said y. behind_both both.loads.0 both.loads.1 y)) _ w)

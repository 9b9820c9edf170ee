use Rattle.std.proofs.lemmas.Result.{err_from_is_err_and}
use Rattle.gp_words.specs.Told.{run_now}
use Rattle.gp_cli.specs.Answer.{RunAnswers}
use Rattle.gp_cli.specs.Inputs.{behind_both}
use Rattle.gp_cli.specs.Loads.{StopsAtBoth}
use Rattle.gp_cli.proofs.Loads.{stopped_so, both_stop}
use Rattle.gp_cli.proofs.Runs.{told_so, told_end, has_rule}
use Rattle.gp_cli.proofs.Settled.{outcome_so}
use Rattle.gp_cli.proofs.top.said_by_files.Goals as goal

pub returns-in_err-program : goal.returns-in_err-program
returns-in_err-program g c =
    let p = err_from_is_err_and c.from_residual.result c.from_residual.ensures.1 in
    rw (p.1, p.2) (stopped_so (StopsAtBoth _ _ _ _) (RunAnswers _ _ (run_now c.args.command)) both_stop _ c.in_err-program.ensures.loads)

pub ended-requires : goal.ended-requires
ended-requires g c = has_rule _ _ c.run-outcome.ensures

pub returns : goal.returns
returns g c =
    let both = c.in_ok-program.ensures.loads in
    let k = run_now c.args.command in
    rw c.or_stopped.ensures (outcome_so k.journal (RunAnswers _ _ k) (λ s is. told_so (told_end _ s c.run-outcome.ensures is) (λ said x. behind_both both.0 both.1 x)) _ c.ended.ensures)

use Rattle.std.proofs.Common.{false}
use Rattle.std.proofs.lemmas.Result.{err_from_is_err_and}
use Rattle.gp_words.specs.Told.{check_now}
use Rattle.gp_cli.specs.Answer.{Checks, CheckAnswers}
use Rattle.gp_cli.specs.Inputs.{behind_both}
use Rattle.gp_cli.specs.Loads.{StopsAtBoth}
use Rattle.gp_cli.proofs.Loads.{stopped_so, both_stop}
use Rattle.gp_cli.proofs.Settled.{settled_so, checks_since}
use Rattle.gp_cli.proofs.check.check.Goals as goal

pub returns-in_err-both : goal.returns-in_err-both
returns-in_err-both g c =
    let p = err_from_is_err_and c.from_residual.result c.from_residual.ensures.1 in
    rw (p.1, p.2) (stopped_so (StopsAtBoth _ _ _ _) (CheckAnswers _ _ (check_now c.args.command)) both_stop _ c.in_err-both.ensures.loads)

pub returns : goal.returns
returns g c =
    let both = c.in_ok-both.ensures in
    settled_so false (Checks _ _ _ _ _) (CheckAnswers _ _ (check_now c.args.command)) (λ said x. behind_both both.loads.0 both.loads.1 (checks_since both.same both.later said x)) _ c.check_both.ensures

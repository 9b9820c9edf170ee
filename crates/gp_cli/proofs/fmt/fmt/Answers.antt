use Rattle.std.proofs.Common.{false}
use Rattle.std.proofs.lemmas.Result.{err_from_is_err_and}
use Rattle.gp_words.specs.Told.{fmt_now}
use Rattle.gp_cli.specs.Inputs.{StopsAtTree}
use Rattle.gp_cli.specs.Answer.{FmtAnswers, stops, formats}
use Rattle.gp_cli.proofs.Loads.{stopped_so}
use Rattle.gp_cli.proofs.Settled.{outcome_so}
use Rattle.gp_cli.proofs.fmt.fmt.Goals as goal

pub returns-in_err-tree : goal.returns-in_err-tree
returns-in_err-tree g c =
    let p = err_from_is_err_and c.from_residual.result c.from_residual.ensures.1 in
    rw (p.1, p.2) (stopped_so (StopsAtTree _ _ _) (FmtAnswers _ _ (fmt_now c.args.command)) (λ said h. stops h) _ c.in_err-tree.ensures.loads)

pub returns : goal.returns
returns g c =
    let k = fmt_now c.args.command in
    let has = c.in_ok-tree.ensures.loads in
    rw c.or_stopped.ensures (outcome_so false (FmtAnswers _ _ k) (λ s t. record { said = _; tells = t; holds = formats has }) _ c.canonical.ensures)

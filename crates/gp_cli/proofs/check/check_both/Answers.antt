use Rattle.std.proofs.lemmas.Result.{err_from_is_err_and}
use Rattle.gp_cli.specs.Texts.{long_result}
use Rattle.gp_cli.specs.Inputs.{StopsAtTrace}
use Rattle.gp_cli.specs.Answer.{Checks, at_trace, at_result, is_derivation, is_none}
use Rattle.gp_cli.specs.Loads.{StopsAtFile}
use Rattle.gp_cli.proofs.Loads.{stopped_so, result_stop, result_since, bytes_since}
use Rattle.gp_cli.proofs.Settled.{checked}
use Rattle.gp_cli.proofs.check.check_both.Goals as goal

pub returns-in_err-trace : goal.returns-in_err-trace
returns-in_err-trace g c =
    let p = err_from_is_err_and c.from_residual.result c.from_residual.ensures.1 in
    rw (p.1, p.2) (stopped_so (StopsAtTrace _ _ _) (Checks _ _ _ _ _) (λ said h. at_trace h) _ c.in_err-trace.ensures.loads)

pub returns-in_err-text : goal.returns-in_err-text
returns-in_err-text g c =
    let p = err_from_is_err_and c.from_residual-in_err-text.result c.from_residual-in_err-text.ensures.1 in
    let loaded = c.in_ok-trace.ensures in
    rw (p.1, p.2) (stopped_so (StopsAtFile _ _ _ long_result) (Checks _ _ _ _ _)
    (λ said h. at_result loaded.loads (result_since loaded.same loaded.later said (result_stop said h))) _ c.in_err-text.ensures.loads)

pub returns : goal.returns
returns g c =
    let loaded = c.in_ok-trace.ensures in
    let result = bytes_since loaded.same c.in_ok-text.ensures.loads in
    let d = rw (c.deref.ensures.value, c.deref-2.ensures.value) at c.is_derivation.ensures in
    rw c.verdict.ensures (checked (Checks _ _ _ _ _) (λ x. is_derivation loaded.loads result x) (λ n. is_none loaded.loads result n) _ d)

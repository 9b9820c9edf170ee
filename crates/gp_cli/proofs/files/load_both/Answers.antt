use Rattle.std.proofs.Common.{◌∙◌, le_trans}
use Rattle.std.proofs.lemmas.Result.{err_from_is_err_and}
use Rattle.gp_cli.specs.Inputs.{StopsAtProgram, StopsAtHost, at_program, at_host}
use Rattle.gp_cli.specs.Loads.{StopsAtBoth}
use Rattle.gp_cli.proofs.Loads.{stopped_so, host_since}
use Rattle.gp_cli.proofs.files.load_both.Goals as goal

pub returns-in_err-program-clause-loads : goal.returns-in_err-program-clause-loads
returns-in_err-program-clause-loads g c =
    let p = err_from_is_err_and c.from_residual.result c.from_residual.ensures.1 in
    rw (p.1, p.2) (stopped_so (StopsAtProgram _ _ _) (StopsAtBoth _ _ _ _) (λ said h. at_program h) _ c.in_err-program.ensures.loads)

pub returns-in_err-graph-clause-loads : goal.returns-in_err-graph-clause-loads
returns-in_err-graph-clause-loads g c =
    let p = err_from_is_err_and c.from_residual-in_err-graph.result c.from_residual-in_err-graph.ensures.1 in
    let loaded = c.in_ok-program.ensures in
    rw (p.1, p.2) (stopped_so (StopsAtHost _ _ _) (StopsAtBoth _ _ _ _) (λ said h. at_host loaded.loads (host_since loaded.same loaded.later said h)) _ c.in_err-graph.ensures.loads)

pub returns-in_err-graph-clause-later : goal.returns-in_err-graph-clause-later
returns-in_err-graph-clause-later g c = le_trans c.in_ok-program.ensures.later c.in_err-graph.ensures.later

pub returns-in_err-graph-clause-same : goal.returns-in_err-graph-clause-same
returns-in_err-graph-clause-same g c = c.in_err-graph.ensures.same ∙ c.in_ok-program.ensures.same

pub returns-clause-loads : goal.returns-clause-loads
returns-clause-loads g c = (c.in_ok-program.ensures.loads, rw c.in_ok-program.ensures.same at c.in_ok-graph.ensures.loads)

pub returns-clause-later : goal.returns-clause-later
returns-clause-later g c = le_trans c.in_ok-program.ensures.later c.in_ok-graph.ensures.later

pub returns-clause-same : goal.returns-clause-same
returns-clause-same g c = c.in_ok-graph.ensures.same ∙ c.in_ok-program.ensures.same

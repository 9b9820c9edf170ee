use Rattle.std.proofs.lemmas.Result.{err_from_is_err_and}
use Rattle.gp_cli.proofs.Loads.{stopped_so}
use Rattle.gp_cli.proofs.Faults.{in_program_stop, in_host_stop}
use Rattle.gp_cli.proofs.parsed.both_of.Goals as goal

pub returns-in_err-program : goal.returns-in_err-program
returns-in_err-program c =
    let p = err_from_is_err_and c.from_residual.result c.from_residual.ensures.1 in
    rw (p.1, p.2) (stopped_so _ _ (in_program_stop c.args.program.now c.args.host.now) _ c.in_err-program.ensures)

pub returns-in_err-graph : goal.returns-in_err-graph
returns-in_err-graph c =
    let p = err_from_is_err_and c.from_residual-in_err-graph.result c.from_residual-in_err-graph.ensures.1 in
    rw (p.1, p.2) (stopped_so _ _ (in_host_stop c.args.program.now c.args.host.now c.in_ok-program.ensures) _ c.in_err-graph.ensures)

pub returns : goal.returns
returns c = (c.in_ok-program.ensures, c.in_ok-graph.ensures)

use Rattle.std.proofs.lemmas.Result.{err_from_is_err_and}
use Rattle.gp_cli.proofs.Loads.{stopped_so, program_stop, program_loads}
use Rattle.gp_cli.proofs.files.load_program.Goals as goal

pub returns-in_err-text-clause-loads : goal.returns-in_err-text-clause-loads
returns-in_err-text-clause-loads g c =
    let p = err_from_is_err_and c.from_residual.result c.from_residual.ensures.1 in
    rw (p.1, p.2) (stopped_so _ _ program_stop _ c.in_err-text.ensures.reads)

pub returns-clause-loads : goal.returns-clause-loads
returns-clause-loads g c = program_loads _ _ _ _ _ c.in_ok-text.ensures.reads (rw c.deref.ensures.value at c.program_of.ensures)

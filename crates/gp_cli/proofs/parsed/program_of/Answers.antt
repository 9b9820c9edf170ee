use Rattle.gp_cli.proofs.Faults.{program_faults}
use Rattle.gp_cli.proofs.parsed.program_of.Goals as goal

pub returns-in-Err : goal.returns-in-Err
returns-in-Err c = rw c.program_refused.ensures (program_faults _ _ c.in-Err.ensures)

pub returns-in-Ok : goal.returns-in-Ok
returns-in-Ok c = record { text = c.in-Ok.ensures.0; names = c.in-Ok.ensures.1 }

use Rattle.gp_cli.proofs.Faults.{host_faults}
use Rattle.gp_cli.proofs.parsed.host_of.Goals as goal

pub returns-in-Err : goal.returns-in-Err
returns-in-Err c = rw c.host_refused.ensures (host_faults _ _ c.in-Err.ensures)

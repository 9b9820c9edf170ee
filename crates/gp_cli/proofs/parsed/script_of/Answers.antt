use Rattle.gp_cli.proofs.Faults.{script_faults}
use Rattle.gp_cli.proofs.parsed.script_of.Goals as goal

pub returns-in-Err : goal.returns-in-Err
returns-in-Err c = rw c.script_refused.ensures (script_faults _ _ c.in-Err.ensures.fault)

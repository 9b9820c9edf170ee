use Rattle.gp_cli.proofs.Faults.{trace_faults}
use Rattle.gp_cli.proofs.parsed.trace_of.Goals as goal

pub returns-in-Err : goal.returns-in-Err
returns-in-Err c = rw c.trace_refused.ensures (trace_faults _ _ c.in-Err.ensures.fault)

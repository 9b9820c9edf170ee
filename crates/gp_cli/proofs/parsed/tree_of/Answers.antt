use Rattle.gp_cli.proofs.Faults.{tree_faults}
use Rattle.gp_cli.proofs.parsed.tree_of.Goals as goal

pub returns-in-Err : goal.returns-in-Err
returns-in-Err c = rw c.program_refused.ensures (tree_faults _ _ c.in-Err.ensures)

use Rattle.gp_hostfile.proofs.Puts.{and_then}
use Rattle.gp_hostfile.proofs.line.put_number.Goals as goal

pub returns : goal.returns
returns c = and_then c.put.ensures c.number.ensures

use Rattle.gp_hostfile.proofs.Puts.{and_then, alone}
use Rattle.gp_hostfile.proofs.line.line_of.Goals as goal

pub returns : goal.returns
returns c = alone c.new-sheet.ensures (and_then c.put.ensures (and_then c.put_fault.ensures c.put-2.ensures))

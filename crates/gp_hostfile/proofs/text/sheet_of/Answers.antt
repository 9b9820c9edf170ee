use Rattle.gp_hostfile.proofs.Puts.{and_then, alone}
use Rattle.gp_hostfile.proofs.text.sheet_of.Goals as goal

pub returns : goal.returns
returns c = alone c.with_room-sheet.ensures (and_then (and_then (and_then (and_then c.put.ensures c.put_nodes.ensures) c.put-2.ensures) c.put_edges.ensures) c.put-3.ensures)

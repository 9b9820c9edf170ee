use Rattle.gp_gen.proofs.Puts.{and_then}
use Rattle.gp_gen.proofs.lines.put_edge.Goals as goal

pub returns : goal.returns
returns c =
    let ends = and_then (and_then (and_then (and_then c.put.ensures c.number.ensures) c.put-2.ensures) c.number-2.ensures) c.put-3.ensures in
    and_then (and_then (and_then (and_then ends c.number-3.ensures) c.put-4.ensures) c.put_edge_label.ensures) c.put-5.ensures

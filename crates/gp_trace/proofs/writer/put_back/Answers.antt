use Rattle.gp_trace.proofs.Puts.{and_then}
use Rattle.gp_trace.proofs.writer.put_back.Goals as goal

pub returns-clause-text : goal.returns-clause-text
returns-clause-text c = and_then (and_then c.put.ensures c.number.ensures.text) c.put-2.ensures

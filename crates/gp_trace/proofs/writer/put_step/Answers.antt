use Rattle.std.proofs.Common.{◌∙◌, sym, arith}
use Rattle.gp_trace.proofs.Puts.{and_then, told}
use Rattle.gp_trace.proofs.Writes.{line_of_pieces, found_held}
use Rattle.gp_trace.proofs.writer.put_step.Goals as goal

pub returns-clause-text : goal.returns-clause-text
returns-clause-text c =
    told (sym (line_of_pieces c.args.found.now c.edges.result.now c.from.result c.nodes.result.now c.edges.ensures.numbers c.edges.ensures.directions (c.from.ensures ∙ c.rule.ensures) c.nodes.ensures))
    (and_then c.put.ensures (and_then c.number.ensures.text (and_then c.put-2.ensures (and_then c.put_nodes.ensures.text (and_then c.put-3.ensures (and_then c.put_edges.ensures.text c.put-4.ensures))))))

pub returns-clause-held : goal.returns-clause-held
returns-clause-held c = found_held c.args.found.now c.edges.result.now c.nodes.result.now c.edges.ensures.numbers c.edges.ensures.directions c.nodes.ensures (omega arith) c.put_nodes.ensures.held c.put_edges.ensures.held

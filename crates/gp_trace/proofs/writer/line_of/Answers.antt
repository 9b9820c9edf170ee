use Rattle.std.proofs.Common.{◌∙◌}
use Rattle.gp_memory.proofs.Basics.{taken}
use Rattle.gp_trace.proofs.Puts.{alone}
use Rattle.gp_trace.proofs.writer.line_of.Goals as goal

pub returns-clause-text : goal.returns-clause-text
returns-clause-text c = taken c.into_text.result (λ v h. h.1 ∙ alone c.new-sheet.ensures c.put_item.ensures.text h.0) c.into_text.ensures

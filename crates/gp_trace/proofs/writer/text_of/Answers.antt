use Rattle.std.proofs.Common.{◌∙◌}
use Rattle.gp_memory.proofs.Basics.{taken}
use Rattle.gp_trace.proofs.Puts.{and_then, alone}
use Rattle.gp_trace.proofs.writer.text_of.Goals as goal

pub returns-clause-text : goal.returns-clause-text
returns-clause-text c =
    let whole = and_then c.put.ensures (and_then c.put_items.ensures.text c.put-2.ensures) in
    taken c.into_text.result (λ v h. h.1 ∙ alone c.new-sheet.ensures whole h.0) c.into_text.ensures

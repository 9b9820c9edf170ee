use Rattle.std.proofs.Common.{◌∙◌}
use Rattle.gp_memory.proofs.Basics.{taken}
use Rattle.gp_gen.proofs.Puts.{and_then, alone}
use Rattle.gp_gen.proofs.texts.host_text.Goals as goal

pub returns : goal.returns
returns c =
    let whole = and_then (and_then (and_then (and_then c.put.ensures c.put_nodes.ensures) c.put-2.ensures) c.put_edges.ensures) c.put-3.ensures in
    taken c.into_text.result (λ t h. h.1 ∙ alone (c.new-sheet.ensures ∙ c.in_ok-with_capacity.ensures.items) whole h.0) c.into_text.ensures

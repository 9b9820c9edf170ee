use Rattle.std.proofs.Common.{◌∙◌}
use Rattle.gp_hostfile.proofs.Lines.{is_text, lines_rise}
use Rattle.gp_hostfile.proofs.Puts.{taken}
use Rattle.gp_hostfile.proofs.text.graph_text.Goals as goal

pub returns : goal.returns
returns c =
    let written = rw c.deref.ensures.value at c.sheet_of.ensures in
    taken _ _ c.into_text.result
    (λ v h. is_text c.args.graph.now.graph c.edge_lines.ensures.sound c.in_ok-edges.edges.items c.sort.new.self.items v.items
    c.in_ok-edges.ensures.lines c.in_ok-sort.ensures.permutation (lines_rise c.sort.new.self.items c.in_ok-sort.ensures.sorted) (h.1 ∙ written h.0))
    c.into_text.ensures

use Rattle.std.proofs.Common.{reverse}
use Rattle.gp_memory.proofs.Basics.{last_first}
use Rattle.gp_step.proofs.Notes.{edge_noted}
use Rattle.gp_step.proofs.edits.relabel_edge.Goals as goal

pub returns-clause-undo : goal.returns-clause-undo
returns-clause-undo c =
    rw (c.push_spare.ensures.items, last_first, c.relabel_edge-old_label.ensures.relabeled)
    (edge_noted (reverse c.args.taken.now.items) c.args.graph.now.graph c.args.number _ _ _ _ c.in-Some.ensures.found c.relabel_edge-old_label.ensures.was)

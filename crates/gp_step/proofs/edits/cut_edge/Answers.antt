use Rattle.std.proofs.Common.{reverse}
use Rattle.gp_memory.proofs.Basics.{last_first}
use Rattle.gp_step.proofs.Notes.{edge_cut}
use Rattle.gp_step.proofs.edits.cut_edge.Goals as goal

pub returns-clause-undo : goal.returns-clause-undo
returns-clause-undo c =
    rw (c.push_spare.ensures.items, last_first, c.remove_edge-source.ensures.removed)
    (edge_cut (reverse c.args.taken.now.items) c.args.graph.now.graph _ _ c.next_numbers-sound.ensures.sound c.remove_edge-source.ensures.was)

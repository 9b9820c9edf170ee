use Rattle.std.proofs.Common.{reverse}
use Rattle.gp_memory.proofs.Basics.{last_first}
use Rattle.gp_step.proofs.Notes.{node_cut}
use Rattle.gp_step.proofs.edits.cut_node.Goals as goal

pub returns-clause-undo : goal.returns-clause-undo
returns-clause-undo c =
    rw (c.push_spare.ensures.items, last_first, c.remove_node-label.ensures.removed)
    (node_cut (reverse c.args.taken.now.items) c.args.graph.now.graph _ _ c.next_numbers-sound.ensures.sound c.remove_node-label.ensures.was)

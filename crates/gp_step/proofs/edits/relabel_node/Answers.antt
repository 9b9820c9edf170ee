use Rattle.std.proofs.Common.{reverse}
use Rattle.gp_memory.proofs.Basics.{last_first}
use Rattle.gp_step.proofs.Notes.{relabel_noted}
use Rattle.gp_step.proofs.edits.relabel_node.Goals as goal

pub returns-clause-undo : goal.returns-clause-undo
returns-clause-undo c =
    rw (c.push_spare.ensures.items, last_first, c.relabel-old_label.ensures.relabeled)
    (relabel_noted (reverse c.args.taken.now.items) c.args.graph.now.graph c.args.kept.number _ _ _ c.in-Some.ensures.found c.relabel-old_label.ensures.was)

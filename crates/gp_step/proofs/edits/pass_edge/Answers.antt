use Rattle.std.proofs.Common.{reverse}
use Rattle.gp_memory.proofs.Basics.{last_first}
use Rattle.gp_step.proofs.Notes.{edge_passed}
use Rattle.gp_step.proofs.edits.pass_edge.Goals as goal

pub returns-clause-undo : goal.returns-clause-undo
returns-clause-undo c =
    rw (c.push_spare.ensures.items, last_first, c.begin_behind.ensures.graph)
    (edge_passed (reverse c.args.taken.now.items) c.args.graph.now.graph c.args.number c.requires.there)

use Rattle.gp_step.proofs.Notes.{node_added}
use Rattle.gp_step.proofs.edits.add_node.Goals as goal

pub returns-clause-undo : goal.returns-clause-undo
returns-clause-undo c = λ us. rw c.in-Ok.ensures.ok (node_added us c.args.graph.now.graph _ c.next_numbers-sound.ensures.sound)

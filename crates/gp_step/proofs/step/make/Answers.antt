use Rattle.std.proofs.Common.{length, ◌∙◌, arith}
use Rattle.std.proofs.lemmas.Grind.{common_steps}
use Rattle.gp_step.proofs.Notes.{undone_together}
use Rattle.gp_step.proofs.step.make.Goals as goal

pub returns-clause-undo : goal.returns-clause-undo
returns-clause-undo c =
    rw c.new.ensures
    (undone_together c.args.room.items c.relabel_nodes.new.taken.items (length c.args.changes.placed.added.items) (length c.args.changes.joined.added.items) c.len-nodes_made.result c.len-edges_made.result c.args.graph.now.graph c.relabel_nodes.new.graph.graph c.add_nodes.new.graph.graph
    c.requires.none (λ before w. c.relabel_nodes.ensures.undo before (c.cut_nodes.ensures.undo before (c.keep_edges.ensures.undo before (c.cut_edges.ensures.undo before w))))
    c.add_nodes.ensures.undo c.add_edges.new.graph.graph c.add_edges.ensures.undo
    (c.len-nodes_made.ensures ∙ c.args.changes.placed.added.ok.0) (c.len-edges_made.ensures ∙ c.args.changes.joined.added.ok.0))

pub cut_nodes-requires-clause-spare : goal.cut_nodes-requires-clause-spare
cut_nodes-requires-clause-spare c = grind (arith, common_steps)

pub relabel_nodes-requires-clause-spare : goal.relabel_nodes-requires-clause-spare
relabel_nodes-requires-clause-spare c = grind (arith, common_steps)

pub keep_edges-requires-clause-spare : goal.keep_edges-requires-clause-spare
keep_edges-requires-clause-spare c = grind (arith, common_steps)

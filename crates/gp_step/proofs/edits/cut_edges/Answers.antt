use Rattle.std.proofs.Common.{◌∙◌, arith}
use Rattle.std.proofs.lemmas.Grind.{common_steps}
use Rattle.gp_step.proofs.Notes.{edge_dropped_next}
use Rattle.gp_step.proofs.edits.cut_edges.Goals as goal

pub loop-e-preserved : goal.loop-e-preserved
loop-e-preserved c =
    let m = edge_dropped_next c.args.edges.now c.loop-e.e-index 0 c.loop-e.graph.graph c.cut_edge.new.graph.graph _ (omega arith) c.cut_edge.ensures.graph c.loop-e.invariant.may c.loop-e.invariant.graph in
    record {
      may = m.may;
      graph = m.graph;
      undo = λ before w. c.cut_edge.ensures.undo before (c.loop-e.invariant.undo before w);
      room = omega (arith, c.cut_edge.ensures.room, c.loop-e.invariant.room);
      node_room = c.cut_edge.ensures.node_room ∙ c.loop-e.invariant.node_room;
      edge_room = c.cut_edge.ensures.edge_room ∙ c.loop-e.invariant.edge_room;
    }

pub cut_edge-requires-clause-there : goal.cut_edge-requires-clause-there
cut_edge-requires-clause-there c = grind (arith, common_steps)

pub cut_edge-requires-clause-spare : goal.cut_edge-requires-clause-spare
cut_edge-requires-clause-spare c = grind (arith, common_steps)

use Rattle.std.proofs.Common.{◌∙◌, arith}
use Rattle.std.proofs.lemmas.Grind.{common_steps}
use Rattle.gp_step.proofs.Notes.{node_next, node_dropped_next}
use Rattle.gp_step.proofs.edits.cut_nodes.Goals as goal

pub cut_node-requires-clause-no_edges : goal.cut_node-requires-clause-no_edges
cut_node-requires-clause-no_edges c = (node_next c.args.nodes.now c.loop-n.n-index 0 c.loop-n.graph.graph (omega arith) c.loop-n.invariant.may).1

pub loop-n-preserved : goal.loop-n-preserved
loop-n-preserved c =
    let m = node_dropped_next c.args.nodes.now c.loop-n.n-index 0 c.loop-n.graph.graph c.cut_node.new.graph.graph _ (omega arith) c.cut_node.ensures.graph c.loop-n.invariant.may c.loop-n.invariant.graph in
    record {
      may = m.may;
      graph = m.graph;
      undo = λ before w. c.cut_node.ensures.undo before (c.loop-n.invariant.undo before w);
      room = omega (arith, c.cut_node.ensures.room, c.loop-n.invariant.room);
      node_room = c.cut_node.ensures.node_room ∙ c.loop-n.invariant.node_room;
      edge_room = c.cut_node.ensures.edge_room ∙ c.loop-n.invariant.edge_room;
    }

pub cut_node-requires-clause-spare : goal.cut_node-requires-clause-spare
cut_node-requires-clause-spare c = grind (arith, common_steps)

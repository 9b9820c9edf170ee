use Rattle.std.proofs.Common.{length, ◌∙◌, arith}
use Rattle.gp_step.specs.declared.inverse.Inverse.TheVariants.{DropNode}
use Rattle.gp_step.proofs.Notes.{added_next, behind_next, behind_all, one_longer}
use Rattle.gp_step.proofs.edits.add_nodes.Goals as goal

pub adds-preserved : goal.adds-preserved
adds-preserved c =
    let one = one_longer c.adds.nodes.items c.pop.new.self.items c.in-Some.node c.in-Some.ensures.items in
    record {
      graph = added_next c.adds.nodes.items c.pop.new.self.items c.in-Some.node c.adds.graph.graph c.add_node.new.graph.graph _ c.in-Some.ensures.items c.add_node.ensures.graph c.adds.invariant.graph;
      left = omega (arith, c.adds.invariant.left);
      undo = behind_next DropNode (length c.args.nodes.now.items) (length c.adds.nodes.items) (length c.pop.new.self.items) c.args.graph.now.graph c.adds.graph.graph c.add_node.new.graph.graph one c.adds.invariant.left c.adds.invariant.undo c.add_node.ensures.undo;
      room = omega (arith, c.adds.invariant.room, c.add_node.ensures.node_room);
      edge_room = c.add_node.ensures.edge_room ∙ c.adds.invariant.edge_room;
    }

pub returns-clause-undo : goal.returns-clause-undo
returns-clause-undo c = behind_all DropNode (length c.args.nodes.now.items) (length c.adds.nodes.items) c.args.graph.now.graph c.adds.graph.graph (omega (arith, c.adds.nodes.ok.0, c.in_default.ensures.cases.0)) c.adds.invariant.undo

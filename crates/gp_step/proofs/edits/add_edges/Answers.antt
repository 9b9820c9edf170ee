use Rattle.std.proofs.Common.{length, arith}
use Rattle.gp_step.specs.declared.inverse.Inverse.TheVariants.{DropEdge}
use Rattle.gp_step.proofs.Notes.{put_next, behind_next, behind_all, one_longer}
use Rattle.gp_step.proofs.edits.add_edges.Goals as goal

pub adds-preserved : goal.adds-preserved
adds-preserved c =
    let one = one_longer c.adds.edges.items c.pop.new.self.items c.in-Some.edge c.in-Some.ensures.items in
    let m = put_next c.adds.edges.items c.pop.new.self.items c.in-Some.edge c.adds.graph.graph c.add_edge.new.graph.graph _ c.in-Some.ensures.items c.add_edge.ensures.graph c.adds.invariant.may c.adds.invariant.graph in
    record {
      may = m.may;
      graph = m.graph;
      left = omega (arith, c.adds.invariant.left);
      undo = behind_next DropEdge (length c.args.edges.now.items) (length c.adds.edges.items) (length c.pop.new.self.items) c.args.graph.now.graph c.adds.graph.graph c.add_edge.new.graph.graph one c.adds.invariant.left c.adds.invariant.undo c.add_edge.ensures.undo;
      room = omega (arith, c.adds.invariant.room, c.add_edge.ensures.edge_room);
    }

pub returns-clause-undo : goal.returns-clause-undo
returns-clause-undo c = behind_all DropEdge (length c.args.edges.now.items) (length c.adds.edges.items) c.args.graph.now.graph c.adds.graph.graph (omega (arith, c.adds.edges.ok.0, c.in_default.ensures.cases.0)) c.adds.invariant.undo

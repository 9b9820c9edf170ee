use Rattle.std.proofs.Common.{◌∙◌}
use Rattle.gp_graph.specs.inside.View.{node_of}
use Rattle.gp_graph.specs.declared.rings.Side.TheVariants.{Beginning, Ending}
use Rattle.gp_graph.proofs.RingSteps.{still_there, met_same}
use Rattle.gp_graph.proofs.Sides.{both_but, kept_rings, kept_but}
use Rattle.gp_graph.proofs.rings.leave_both.Goals as goal

pub leave-requires-clause-rings : goal.leave-requires-clause-rings
leave-requires-clause-rings c = c.requires.rings Beginning

pub leave-requires-2-clause-node : goal.leave-requires-2-clause-node
leave-requires-2-clause-node c = still_there node_of c.args.nodes.now c.leave.new.nodes c.args.target c.leave.ensures.keeps.nodes c.requires.there.target_there

pub leave-requires-2-clause-edge : goal.leave-requires-2-clause-edge
leave-requires-2-clause-edge c = met_same Ending c.args.edges.now c.leave.new.edges c.args.target c.args.e c.leave.ensures.keeps.edges c.requires.there.ends

pub leave-requires-2-clause-rings : goal.leave-requires-2-clause-rings
leave-requires-2-clause-rings c = kept_rings Beginning c.args.nodes.now c.args.edges.now c.leave.new.nodes c.leave.new.edges c.leave.ensures.keeps (c.requires.rings Ending)

pub returns-clause-rings : goal.returns-clause-rings
returns-clause-rings c =
    both_but c.leave-2.new.nodes c.leave-2.new.edges c.args.e
    (kept_but Ending c.leave.new.nodes c.leave.new.edges c.leave-2.new.nodes c.leave-2.new.edges c.args.e c.leave-2.ensures.keeps c.leave.ensures.rings)
    c.leave-2.ensures.rings

pub returns-clause-same : goal.returns-clause-same
returns-clause-same c = record {
  nodes = λ k. c.leave-2.ensures.keeps.nodes k ∙ c.leave.ensures.keeps.nodes k;
  edges = λ k. c.leave-2.ensures.keeps.edges k ∙ c.leave.ensures.keeps.edges k;
  roots = λ k. c.leave-2.ensures.keeps.roots k ∙ c.leave.ensures.keeps.roots k;
}

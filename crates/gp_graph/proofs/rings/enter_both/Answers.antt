use Rattle.std.proofs.Common.{◌∙◌}
use Rattle.gp_graph.specs.inside.View.{node_of}
use Rattle.gp_graph.specs.declared.rings.Side.TheVariants.{Beginning, Ending}
use Rattle.gp_graph.proofs.RingSteps.{still_there, met_same}
use Rattle.gp_graph.proofs.Sides.{both_rings, kept_rings, kept_but}
use Rattle.gp_graph.proofs.rings.enter_both.Goals as goal

pub enter-requires-clause-rings : goal.enter-requires-clause-rings
enter-requires-clause-rings c = c.requires.rings Beginning

pub enter-requires-2-clause-node : goal.enter-requires-2-clause-node
enter-requires-2-clause-node c = still_there node_of c.args.nodes.now c.enter.new.nodes c.args.target c.enter.ensures.keeps.nodes c.requires.there.target_there

pub enter-requires-2-clause-edge : goal.enter-requires-2-clause-edge
enter-requires-2-clause-edge c = met_same Ending c.args.edges.now c.enter.new.edges c.args.target c.args.e c.enter.ensures.keeps.edges c.requires.there.ends

pub enter-requires-2-clause-rings : goal.enter-requires-2-clause-rings
enter-requires-2-clause-rings c = kept_but Beginning c.args.nodes.now c.args.edges.now c.enter.new.nodes c.enter.new.edges c.args.e c.enter.ensures.keeps (c.requires.rings Ending)

pub returns-clause-rings : goal.returns-clause-rings
returns-clause-rings c =
    both_rings c.enter-2.new.nodes c.enter-2.new.edges
    (kept_rings Ending c.enter.new.nodes c.enter.new.edges c.enter-2.new.nodes c.enter-2.new.edges c.enter-2.ensures.keeps c.enter.ensures.rings)
    c.enter-2.ensures.rings

pub returns-clause-same : goal.returns-clause-same
returns-clause-same c = record {
  nodes = λ k. c.enter-2.ensures.keeps.nodes k ∙ c.enter.ensures.keeps.nodes k;
  edges = λ k. c.enter-2.ensures.keeps.edges k ∙ c.enter.ensures.keeps.edges k;
  roots = λ k. c.enter-2.ensures.keeps.roots k ∙ c.enter.ensures.keeps.roots k;
}

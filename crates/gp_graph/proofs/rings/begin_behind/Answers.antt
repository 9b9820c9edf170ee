use Rattle.gp_graph.specs.declared.rings.Side.TheVariants.{Beginning, Ending}
use Rattle.gp_graph.proofs.Links.{slot_within}
use Rattle.gp_graph.proofs.RingSteps.{met_node, next_met}
use Rattle.gp_graph.proofs.Sides.{both_turned}
use Rattle.gp_graph.proofs.rings.begin_behind.Goals as goal

pub set_first-requires : goal.set_first-requires
set_first-requires c =
    slot_within c.args.nodes.now c.ends_of-source.result.0
    (met_node Beginning c.args.nodes.now c.args.edges.now c.ends_of-source.result.0 c.args.e c.ends_of-source.ensures.source (c.requires.rings Beginning))

pub set_first-requires-2 : goal.set_first-requires-2
set_first-requires-2 c =
    rw c.set_first.auto.nodes
    (slot_within c.args.nodes.now c.ends_of-source.result.1
    (met_node Ending c.args.nodes.now c.args.edges.now c.ends_of-source.result.1 c.args.e c.ends_of-source.ensures.target (c.requires.rings Ending)))

pub returns-clause-rings : goal.returns-clause-rings
returns-clause-rings c =
    (both_turned c.args.nodes.now c.set_first.new.nodes c.set_first-2.new.nodes c.args.edges.now c.ends_of-source.result.0 c.ends_of-source.result.1 c.link_at-beginning.result.next c.link_at-ending.result.next
    (next_met Beginning c.args.nodes.now c.args.edges.now c.ends_of-source.result.0 c.args.e c.link_at-beginning.result c.ends_of-source.ensures.source (c.requires.rings Beginning) c.link_at-beginning.ensures)
    (next_met Ending c.args.nodes.now c.args.edges.now c.ends_of-source.result.1 c.args.e c.link_at-ending.result c.ends_of-source.ensures.target (c.requires.rings Ending) c.link_at-ending.ensures)
    c.requires.rings c.set_first.ensures c.set_first-2.ensures).0

pub returns-clause-same : goal.returns-clause-same
returns-clause-same c =
    (both_turned c.args.nodes.now c.set_first.new.nodes c.set_first-2.new.nodes c.args.edges.now c.ends_of-source.result.0 c.ends_of-source.result.1 c.link_at-beginning.result.next c.link_at-ending.result.next
    (next_met Beginning c.args.nodes.now c.args.edges.now c.ends_of-source.result.0 c.args.e c.link_at-beginning.result c.ends_of-source.ensures.source (c.requires.rings Beginning) c.link_at-beginning.ensures)
    (next_met Ending c.args.nodes.now c.args.edges.now c.ends_of-source.result.1 c.args.e c.link_at-ending.result c.ends_of-source.ensures.target (c.requires.rings Ending) c.link_at-ending.ensures)
    c.requires.rings c.set_first.ensures c.set_first-2.ensures).1

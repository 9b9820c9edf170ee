use Rattle.std.proofs.Common.{sym, subst}
use Rattle.gp_graph.specs.inside.Rings.{HasRingsBut, Keeps}
use Rattle.gp_graph.proofs.Links.{slot_within}
use Rattle.gp_graph.proofs.RingSteps.{left, keeps, prev_some, next_some, may_leave}
use Rattle.gp_graph.proofs.rings.leave.Goals as goal

pub join-requires-clause-from : goal.join-requires-clause-from
join-requires-clause-from c = prev_some c.args.side c.args.nodes.now c.args.edges.now c.args.n c.args.e c.link_at-link.result c.requires.edge c.requires.rings c.link_at-link.ensures

pub join-requires-clause-to : goal.join-requires-clause-to
join-requires-clause-to c = next_some c.args.side c.args.nodes.now c.args.edges.now c.args.n c.args.e c.link_at-link.result c.requires.edge c.requires.rings c.link_at-link.ensures

pub overflow_sub-count : goal.overflow_sub-count
overflow_sub-count c = may_leave c.args.side c.args.nodes.now c.args.edges.now c.args.n c.args.e c.ring_at-ring.result c.requires.edge c.requires.rings c.ring_at-ring.ensures

pub set_ring-requires : goal.set_ring-requires
set_ring-requires c = slot_within c.args.nodes.now c.args.n c.requires.node

pub returns-clause-rings : goal.returns-clause-rings
returns-clause-rings c =
    subst (λ ns. HasRingsBut c.args.side ns c.join.new.edges c.args.e) (sym c.set_ring.ensures)
    (left c.args.side c.args.nodes.now c.args.edges.now c.join.new.edges c.args.n c.args.e c.ring_at-ring.result c.link_at-link.result c.requires.node c.requires.edge c.requires.rings c.ring_at-ring.ensures c.link_at-link.ensures
    c.join.ensures.joins c.join.ensures.same)

pub returns-clause-keeps : goal.returns-clause-keeps
returns-clause-keeps c =
    subst (λ ns. Keeps c.args.side c.args.nodes.now c.args.edges.now ns c.join.new.edges) (sym c.set_ring.ensures)
    (keeps c.args.side c.args.nodes.now c.args.edges.now c.join.new.edges c.args.n _ c.join.ensures.same c.join.ensures.links)

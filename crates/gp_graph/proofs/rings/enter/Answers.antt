use Rattle.std.proofs.Common.{◌≡◌, sym, ap, subst, ◌∙◌, arith}
use Rattle.gp_graph.specs.inside.View.{edge_of}
use Rattle.gp_graph.specs.inside.Rings.{HasRings, Keeps, count_of}
use Rattle.gp_rings.specs.declared.rings.Ring.{Ring}
use Rattle.gp_graph.proofs.Links.{slot_within}
use Rattle.gp_graph.proofs.RingSteps.{entered, keeps, last_some, first_some, may_enter, still_there}
use Rattle.gp_graph.proofs.rings.enter.Goals as goal

pub join-requires-clause-from : goal.join-requires-clause-from
join-requires-clause-from c =
    last_some c.args.side c.args.nodes.now c.args.edges.now c.args.n c.args.e c.ends-first.result.1 c.requires.edge c.requires.rings
    (λ z. (c.ends-first.ensures.none z).1) (λ z. (c.ends-first.ensures.some z).1)

pub join-requires-2-clause-to : goal.join-requires-2-clause-to
join-requires-2-clause-to c =
    still_there edge_of c.args.edges.now c.join.new.edges c.ends-first.result.0 c.join.ensures.same
    (first_some c.args.side c.args.nodes.now c.args.edges.now c.args.n c.args.e c.ends-first.result.0 c.requires.edge c.requires.rings
    (λ z. (c.ends-first.ensures.none z).0) (λ z. (c.ends-first.ensures.some z).0))

pub overflow_add-count : goal.overflow_add-count
overflow_add-count c =
    let h = may_enter c.args.side c.args.nodes.now c.args.edges.now c.args.n c.args.e c.requires.edge c.requires.rings in
    let e : c.ring_at-ring.result.count ≡ count_of c.args.side c.args.nodes.now c.args.n = ap (λ (r : Ring). r.count) c.ring_at-ring.ensures in
    omega (arith, h)

pub set_ring-requires : goal.set_ring-requires
set_ring-requires c = slot_within c.args.nodes.now c.args.n c.requires.node

pub returns-clause-rings : goal.returns-clause-rings
returns-clause-rings c =
    subst (λ ns. HasRings c.args.side ns c.join-2.new.edges) (sym c.set_ring.ensures)
    (entered c.args.side c.args.nodes.now c.args.edges.now c.join.new.edges c.join-2.new.edges c.args.n c.args.e c.ends-first.result.0 c.ends-first.result.1 c.ring_at-ring.result c.requires.node c.requires.edge c.requires.rings c.ring_at-ring.ensures
    c.ends-first.ensures.none c.ends-first.ensures.some c.join.ensures.joins c.join-2.ensures.joins (λ k. c.join-2.ensures.same k ∙ c.join.ensures.same k))

pub returns-clause-keeps : goal.returns-clause-keeps
returns-clause-keeps c =
    subst (λ ns. Keeps c.args.side c.args.nodes.now c.args.edges.now ns c.join-2.new.edges) (sym c.set_ring.ensures)
    (keeps c.args.side c.args.nodes.now c.args.edges.now c.join-2.new.edges c.args.n _ (λ k. c.join-2.ensures.same k ∙ c.join.ensures.same k) (λ k. c.join-2.ensures.links k ∙ c.join.ensures.links k))

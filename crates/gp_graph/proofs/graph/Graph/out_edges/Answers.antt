use Rattle.std.proofs.Common.{sym, ap, subst, ◌∙◌}
use Rattle.gp_graph.specs.Walks.{Walks, BeginsAt}
use Rattle.gp_graph.specs.inside.Slots.{slot_in}
use Rattle.gp_graph.specs.inside.Rings.{ring_in}
use Rattle.gp_graph.specs.inside.View.{graph_from}
use Rattle.gp_graph.specs.declared.rings.Side.TheVariants.{Beginning}
use Rattle.gp_graph.proofs.Degrees.{out_degree-walk}
use Rattle.gp_graph.proofs.Walking.{walks_out_ring}
use Rattle.gp_graph.proofs.graph.Graph.out_edges.Goals as goal

pub returns-clause-walks : goal.returns-clause-walks
returns-clause-walks c =
    let ns = c.self.inside.nodes.items in
    let es = c.self.inside.edges.items in
    rw (← c.self.view_is)
    (subst (λ xs. Walks xs (BeginsAt (graph_from ns es) c.args.n)) (sym c.over.ensures.numbers)
    (walks_out_ring ns es c.deref-2.result.now c.args.n c.ring_at-ring.result c.deref-2.ensures.value (c.ring_at-ring.ensures ∙ ap (λ xs. ring_in Beginning (slot_in xs c.args.n)) c.deref.ensures.value) (c.self.invariant.held.rings Beginning)))

pub returns-clause-counted : goal.returns-clause-counted
returns-clause-counted c =
    let ns = c.self.inside.nodes.items in
    let es = c.self.inside.edges.items in
    rw (← c.self.view_is)
    (out_degree-walk (graph_from ns es) c.args.n c.over.result
    (subst (λ xs. Walks xs (BeginsAt (graph_from ns es) c.args.n)) (sym c.over.ensures.numbers)
    (walks_out_ring ns es c.deref-2.result.now c.args.n c.ring_at-ring.result c.deref-2.ensures.value (c.ring_at-ring.ensures ∙ ap (λ xs. ring_in Beginning (slot_in xs c.args.n)) c.deref.ensures.value) (c.self.invariant.held.rings Beginning))))

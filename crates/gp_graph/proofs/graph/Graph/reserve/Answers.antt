use Rattle.std.proofs.Common.{sym, ap, ap₂, subst, ◌∙◌, arith}
use Rattle.gp_graph.specs.Held.{Held}
use Rattle.gp_graph.specs.inside.Sound.{IsHeld}
use Rattle.gp_graph.specs.inside.View.{graph_from}
use Rattle.gp_graph.specs.inside.Pairs.{IsIndex}
use Rattle.gp_graph.proofs.graph.Graph.reserve.Goals as goal

pub invariant_of-self : goal.invariant_of-self
invariant_of-self c = record {
  held =
      subst (λ ns. IsHeld ns c.self.inside.edges.items c.self.inside.roots c.self.inside.node_count) (sym c.reserve.ensures.items) c.self.invariant.held;
  index = c.self.invariant.index;
}

pub invariant_of-self-in_err-reserve-2 : goal.invariant_of-self-in_err-reserve-2
invariant_of-self-in_err-reserve-2 c = record {
  held =
      subst (λ ns. IsHeld ns c.reserve-2.new.self.items c.self.inside.roots c.self.inside.node_count) (sym c.reserve.ensures.items)
      (subst (λ es. IsHeld c.self.inside.nodes.items es c.self.inside.roots c.self.inside.node_count) (sym c.reserve-2.ensures.items) c.self.invariant.held);
  index = subst (IsIndex c.self.inside.index) (sym c.reserve-2.ensures.items) c.self.invariant.index;
}

pub invariant_of-self-2 : goal.invariant_of-self-2
invariant_of-self-2 c = record {
  held =
      subst (λ ns. IsHeld ns c.reserve-2.new.self.items c.self.inside.roots c.self.inside.node_count) (sym c.reserve.ensures.items)
      (subst (λ es. IsHeld c.self.inside.nodes.items es c.self.inside.roots c.self.inside.node_count) (sym c.reserve-2.ensures.items) c.self.invariant.held);
  index = subst (IsIndex c.self.inside.index) (sym c.reserve-2.ensures.items) c.self.invariant.index;
}

pub returns-in_err-reserve-clause-graph : goal.returns-in_err-reserve-clause-graph
returns-in_err-reserve-clause-graph c =
    ap (λ ns. graph_from ns c.self.inside.edges.items) c.reserve.ensures.items ∙ ap (λ (h : Held). h.graph) c.self.view_is

pub returns-in_err-reserve-2-clause-graph : goal.returns-in_err-reserve-2-clause-graph
returns-in_err-reserve-2-clause-graph c =
    ap₂ graph_from c.reserve.ensures.items c.reserve-2.ensures.items ∙ ap (λ (h : Held). h.graph) c.self.view_is

pub returns-clause-graph : goal.returns-clause-graph
returns-clause-graph c =
    ap₂ graph_from c.reserve.ensures.items c.reserve-2.ensures.items ∙ ap (λ (h : Held). h.graph) c.self.view_is

pub returns-in_err-reserve-clause-no_fewer_nodes : goal.returns-in_err-reserve-clause-no_fewer_nodes
returns-in_err-reserve-clause-no_fewer_nodes c = rw (← c.self.view_is) (omega (arith, c.reserve.ensures.capacity, c.reserve.ensures.len))

pub returns-in_err-reserve-2-clause-no_fewer_nodes : goal.returns-in_err-reserve-2-clause-no_fewer_nodes
returns-in_err-reserve-2-clause-no_fewer_nodes c = rw (← c.self.view_is) (omega (arith, c.reserve.ensures.capacity, c.reserve.ensures.len))

pub returns-clause-no_fewer_nodes : goal.returns-clause-no_fewer_nodes
returns-clause-no_fewer_nodes c = rw (← c.self.view_is) (omega (arith, c.reserve.ensures.capacity, c.reserve.ensures.len))

pub returns-in_err-reserve-2-clause-no_fewer_edges : goal.returns-in_err-reserve-2-clause-no_fewer_edges
returns-in_err-reserve-2-clause-no_fewer_edges c = rw (← c.self.view_is) (omega (arith, c.reserve-2.ensures.capacity, c.reserve-2.ensures.len))

pub returns-clause-no_fewer_edges : goal.returns-clause-no_fewer_edges
returns-clause-no_fewer_edges c = rw (← c.self.view_is) (omega (arith, c.reserve-2.ensures.capacity, c.reserve-2.ensures.len))

pub returns-in_err-reserve-clause-no_fewer_edges : goal.returns-in_err-reserve-clause-no_fewer_edges
returns-in_err-reserve-clause-no_fewer_edges c = rw (← c.self.view_is) (omega arith)

use Rattle.gp_graph.proofs.Views.{dropped_node}
use Rattle.gp_graph.proofs.Calls.{held_node_dropped}
use Rattle.gp_graph.proofs.graph.Graph.drop_node.Goals as goal

pub invariant_of-self : goal.invariant_of-self
invariant_of-self c = record {
  held =
      rw c.drop_last.ensures.items (held_node_dropped c.self.inside.nodes.items c.self.inside.edges.items c.self.inside.roots c.self.inside.node_count c.self.invariant.held (rw (← c.self.view_is) at c.requires.some) (rw (← c.self.view_is) at c.requires.vacant));
  index = c.self.invariant.index;
}

pub returns-clause-dropped : goal.returns-clause-dropped
returns-clause-dropped c =
    rw (c.drop_last.ensures.items, ← c.self.view_is)
    (dropped_node c.self.inside.nodes.items c.self.inside.edges.items (rw (← c.self.view_is) at c.requires.some) (rw (← c.self.view_is) at c.requires.vacant))

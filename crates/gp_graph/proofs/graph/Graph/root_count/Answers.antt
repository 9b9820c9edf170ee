use Rattle.gp_graph.proofs.Walking.{counts_roots}
use Rattle.gp_graph.proofs.graph.Graph.root_count.Goals as goal

pub returns : goal.returns
returns c = rw (← c.self.view_is) (counts_roots c.self.inside.nodes.items c.self.inside.edges.items c.self.inside.roots c.self.invariant.held.roots)

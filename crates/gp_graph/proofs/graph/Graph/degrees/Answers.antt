use Rattle.gp_graph.specs.declared.rings.Side.TheVariants.{Beginning, Ending}
use Rattle.gp_graph.proofs.Walking.{counts_out, counts_in}
use Rattle.gp_graph.proofs.graph.Graph.degrees.Goals as goal

pub returns : goal.returns
returns c =
    rw (
      ← c.self.view_is,
      ← counts_in c.self.inside.nodes.items c.self.inside.edges.items c.args.n (c.self.invariant.held.rings Ending),
      ← counts_out c.self.inside.nodes.items c.self.inside.edges.items c.args.n (c.self.invariant.held.rings Beginning),
      c.ring_at-ending.ensures,
      c.ring_at-beginning.ensures,
      c.deref.ensures.value,
      c.deref-2.ensures.value,
    )

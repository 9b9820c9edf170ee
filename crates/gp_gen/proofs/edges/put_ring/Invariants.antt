use Rattle.gp_gen.specs.Host.{numbers_below, ring_edge}
use Rattle.gp_gen.specs.inside.Draws.{Draws}
use Rattle.gp_gen.proofs.edges.put_ring.Given as goal

abbrev pub invariant-loop-i : goal.invariant-loop-i
invariant-loop-i l = Draws (ring_edge l.size) (numbers_below l.i) 0 l.initial.sheet l.sheet l.initial.generator l.generator

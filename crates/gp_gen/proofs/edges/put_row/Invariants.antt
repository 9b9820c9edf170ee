use Rattle.gp_gen.specs.Host.{grid_edge}
use Rattle.gp_gen.specs.inside.Draws.{Draws}
use Rattle.gp_gen.proofs.Grids.{first_row_pairs}
use Rattle.gp_gen.proofs.edges.put_row.Given as goal

abbrev pub invariant-loop-column : goal.invariant-loop-column
invariant-loop-column l = Draws grid_edge (first_row_pairs l.size l.row l.column) l.first_edge l.initial.sheet l.sheet l.initial.generator l.generator

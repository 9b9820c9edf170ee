use Rattle.std.specs.Prelude.{flat_map}
use Rattle.gp_gen.specs.Host.{numbers_below, row_pairs, grid_edge}
use Rattle.gp_gen.specs.inside.Draws.{Draws}
use Rattle.gp_gen.proofs.edges.put_rows.Given as goal

abbrev pub invariant-loop-row : goal.invariant-loop-row
invariant-loop-row l = Draws grid_edge (flat_map (row_pairs l.size) (numbers_below l.row)) 0 l.initial.sheet l.sheet l.initial.generator l.generator

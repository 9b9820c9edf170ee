use Rattle.std.specs.Prelude.{flat_map}
use Rattle.gp_gen.specs.Host.{numbers_below, column_pairs, grid_edge}
use Rattle.gp_gen.specs.inside.Draws.{Draws}
use Rattle.gp_gen.proofs.edges.put_columns.Given as goal

abbrev pub invariant-loop-row : goal.invariant-loop-row
invariant-loop-row l = Draws grid_edge (flat_map (column_pairs l.size) (numbers_below l.row)) l.first_edge l.initial.sheet l.sheet l.initial.generator l.generator

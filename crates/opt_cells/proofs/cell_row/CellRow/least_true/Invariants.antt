use Rattle.opt_cells.specs.Row.{NoneTrue}
use Rattle.opt_cells.proofs.cell_row.CellRow.least_true.Given as goal

abbrev pub invariant-loop-place : goal.invariant-loop-place
invariant-loop-place l = NoneTrue l.self.cells l.shares l.share l.place

use Rattle.opt_cells.proofs.More.{Gathered}
use Rattle.opt_cells.proofs.cell_system.CellsSystem.more.Given as goal

abbrev pub invariant-loop-place : goal.invariant-loop-place
invariant-loop-place l = Gathered l.goal l.share l.at l.limit l.initial.held.items l.held.items l.place-counter

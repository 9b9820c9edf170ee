use Rattle.std.proofs.Common.{◌≡◌, ◌≤◌, ◌-◌, length}
use Rattle.opt_system.specs.Meaning.{undone_by}
use Rattle.opt_cells.specs.Cells.{cells_means}
use Rattle.opt_cells.proofs.cell_system.CellsSystem.back.Given as goal

abbrev pub invariant-loop : goal.invariant-loop
invariant-loop l = record { left : l.k - l.counter ≤ length l.at.taken; same : undone_by cells_means (l.k - l.counter) l.at ≡ undone_by cells_means l.k l.initial.at }

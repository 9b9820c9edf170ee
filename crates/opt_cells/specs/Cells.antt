-- What Cells mean.
use Rattle.std.specs.Prelude.{◌≢◌, ℕ, ◌%◌, ◌∷◌, List, Bool, false, cond, length, slice_index_or, slice_set}
use Rattle.opt_system.specs.declared.answers.Sought.{Sought}
use Rattle.opt_system.specs.declared.answers.Sought.TheVariants as sought
use Rattle.opt_cells.specs.declared.cells_goal.CellsGoal.{CellsGoal}
use Rattle.opt_cells.specs.declared.cells_goal.Never.{Never}
use Rattle.opt_cells.specs.Row.{Row, row, undone_of, IsLeastTrue}
use Rattle.opt_system.specs.Meaning.{Meaning, Judged, applies, neither, Barren}

-- a place applies where it is in the row and true, and no place is faulty
abbrev pub judged_in : List Bool → ℕ → Judged Never
judged_in cells p = cond (slice_index_or cells p false) applies neither

abbrev pub after_of : Row → ℕ → Row
after_of r p = row (slice_set r.cells p false) (p ∷ r.taken)

-- matches are independent where their places differ
abbrev pub cells_means : Meaning Row ℕ CellsGoal Never
cells_means = record {
  judged = λ goal at p. judged_in at.cells p;
  after = after_of;
  undone = λ at. undone_of at.cells at.taken;
  depth = λ at. length at.taken;
  shares = λ goal. goal.shares;
  share = λ goal p. p % goal.shares;
  mode = λ goal. goal.mode;
  independent = λ at p q. p ≢ q;
}

-- the search gives the least place of the share that applies, and takes no memory
abbrev pub IsLeastSought : CellsGoal → ℕ → Row → Sought ℕ Never → Type 0
IsLeastSought goal share at (sought.Applies p) = IsLeastTrue at.cells goal.shares share p
IsLeastSought goal share at (sought.Faulty p r) = ⊥
IsLeastSought goal share at sought.Barren = Barren cells_means goal share at
IsLeastSought goal share at sought.NoMemory = ⊥

-- One step of taking back.
use Rattle.std.proofs.Common.{◌≡◌, ℕ, suc, ◌≤◌, List, [], ◌∷◌, length, Bool, arith, subst}
use Rattle.opt_cells.specs.Row.{Row, undone_of}
use Rattle.opt_system.specs.Meaning.{undone_by}
use Rattle.opt_cells.specs.Cells.{cells_means}

shorter : (n : ℕ) (cells : List Bool) (taken : List ℕ) → suc n ≤ length taken → n ≤ length (undone_of cells taken).taken
shorter n cells [] h = absurd (omega arith)
shorter n cells (p ∷ ps) h = omega arith

pub back_step : (j n : ℕ) (at end : Row) → j ≡ suc n → j ≤ length at.taken → undone_by cells_means j at ≡ end
    → record { left : n ≤ length (undone_of at.cells at.taken).taken; same : undone_by cells_means n (undone_of at.cells at.taken) ≡ end }
back_step j n at end e left same = record {
  left = shorter n at.cells at.taken (omega arith);
  same = subst (λ (k : ℕ). undone_by cells_means k at ≡ end) e same;
}

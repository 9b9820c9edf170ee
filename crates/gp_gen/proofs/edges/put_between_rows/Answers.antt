use Rattle.std.proofs.Common.{ℕ, ◌+◌, ◌*◌}
use Rattle.gp_gen.proofs.Drawing.{draws_none, draws_both}
use Rattle.gp_gen.proofs.Grids.{column_more, columns_counted}
use Rattle.gp_gen.proofs.edges.put_between_rows.Goals as goal

pub loop-column-init : goal.loop-column-init
loop-column-init c = draws_none

pub loop-column-preserved : goal.loop-column-preserved
loop-column-preserved c =
    let pair : ℕ → ℕ × ℕ = (λ k. (c.args.row * c.args.size + k, (c.args.row + 1) * c.args.size + k)) in
    draws_both (column_more pair c.loop-column.column) (columns_counted pair c.args.first_edge c.loop-column.column) c.loop-column.invariant c.put_grid_edge.ensures

use Rattle.std.proofs.Common.{◌*◌, ◌-◌}
use Rattle.gp_gen.specs.Host.{column_pairs}
use Rattle.gp_gen.proofs.Drawing.{draws_none, draws_both}
use Rattle.gp_gen.proofs.Grids.{row_more, columns_of_rows_counted}
use Rattle.gp_gen.proofs.edges.put_columns.Goals as goal

pub loop-row-init : goal.loop-row-init
loop-row-init c = draws_none

pub loop-row-preserved : goal.loop-row-preserved
loop-row-preserved c =
    draws_both (row_more (column_pairs c.args.size) c.loop-row.row) (columns_of_rows_counted c.args.size (c.args.size * (c.args.size - 1)) c.loop-row.row) c.loop-row.invariant c.put_between_rows.ensures

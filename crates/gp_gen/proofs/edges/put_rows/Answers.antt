use Rattle.gp_gen.specs.Host.{row_pairs}
use Rattle.gp_gen.proofs.Drawing.{draws_none, draws_both}
use Rattle.gp_gen.proofs.Grids.{row_more, rows_counted}
use Rattle.gp_gen.proofs.edges.put_rows.Goals as goal

pub loop-row-init : goal.loop-row-init
loop-row-init c = draws_none

pub loop-row-preserved : goal.loop-row-preserved
loop-row-preserved c = draws_both (row_more (row_pairs c.args.size) c.loop-row.row) (rows_counted c.args.size c.loop-row.row) c.loop-row.invariant c.put_row.ensures

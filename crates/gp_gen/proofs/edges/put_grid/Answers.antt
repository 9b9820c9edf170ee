use Rattle.std.proofs.Common.{refl}
use Rattle.gp_gen.proofs.Drawing.{draws_both}
use Rattle.gp_gen.proofs.Grids.{rows_counted}
use Rattle.gp_gen.proofs.edges.put_grid.Goals as goal

pub returns : goal.returns
returns c = draws_both refl (rows_counted c.args.size c.args.size) c.put_rows.ensures c.put_columns.ensures

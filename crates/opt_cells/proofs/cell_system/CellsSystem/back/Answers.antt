use Rattle.std.proofs.Common.{◌-◌, ◌+◌, arith}
use Rattle.opt_cells.proofs.BackSteps.{back_step}
use Rattle.opt_cells.proofs.cell_system.CellsSystem.back.Goals as goal

pub loop-preserved : goal.loop-preserved
loop-preserved c = rw c.take_back.ensures (back_step (c.args.k - c.loop.counter) (c.args.k - (c.loop.counter + 1)) c.loop.at _ (omega arith) c.loop.invariant.left c.loop.invariant.same)

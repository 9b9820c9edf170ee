use Rattle.std.proofs.Common.{◌-◌, ◌+◌, arith}
use Rattle.gp_derivation.proofs.Changes.{back_step}
use Rattle.gp_derivation.proofs.table.EdgeTable.back.Goals as goal

pub loop-preserved : goal.loop-preserved
loop-preserved c = rw c.back_one.ensures (back_step (c.args.k - c.loop.counter) (c.args.k - (c.loop.counter + 1)) c.loop.self _ (omega arith) c.loop.invariant.left c.loop.invariant.same)

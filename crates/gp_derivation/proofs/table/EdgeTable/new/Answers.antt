use Rattle.std.proofs.Common.{◌∙◌}
use Rattle.gp_derivation.proofs.Changes.{one_own}
use Rattle.gp_derivation.proofs.table.EdgeTable.new.Goals as goal

pub loop-e-preserved : goal.loop-e-preserved
loop-e-preserved c = c.in_ok-push.ensures.items ∙ one_own c.args.graph.now.graph c.loop-e.e c.loop-e.today.items c.own_number.result c.loop-e.invariant c.own_number.ensures

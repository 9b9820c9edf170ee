use Rattle.gp_values.proofs.Copies.{one_copied}
use Rattle.gp_values.proofs.list.copy_all.Goals as goal

pub loop-atom-preserved : goal.loop-atom-preserved
loop-atom-preserved c =
    one_copied _ c.loop-atom.copies.items c.push.new.self.items c.loop-atom.atom-index c.atom-item.result c.in_ok-copy.field-0 c.loop-atom-test.true c.atom-item.is c.in_ok-copy.ensures c.loop-atom.invariant c.in_ok-push.ensures.items

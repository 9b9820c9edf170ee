use Rattle.gp_derivation.proofs.Changes.{back_fits}
use Rattle.gp_derivation.proofs.table.EdgeTable.back_one.Goals as goal

pub invariant_of-self : goal.invariant_of-self
invariant_of-self c = back_fits c.self.inside.replaced.items c.pop.new.self.items c.in-Some.last c.self.inside.today.items c.put_back.new.today.items c.in-Some.ensures.items c.put_back.ensures c.self.invariant

use Rattle.std.proofs.Common.{refl}
use Rattle.gp_derivation.proofs.Changes.{images_below, stepped_fits, stepped_is}
use Rattle.gp_derivation.proofs.table.EdgeTable.step.Goals as goal

pub take_out-requires : goal.take_out-requires
take_out-requires c = rw c.reserve.ensures.items (images_below c.self.inside.today.items c.args.was.now _ (rw (← c.self.view_is) at c.requires))

pub invariant_of-self-2 : goal.invariant_of-self-2
invariant_of-self-2 c =
    rw (c.put.ensures, c.take_out.ensures.items, c.reserve.ensures.items, c.in_ok-push.ensures.items)
    (stepped_fits c.self.inside.today.items c.self.inside.replaced.items _ c.args.was.now c.args.now.now c.args.made.now (rw (← c.self.view_is) at c.requires) c.in_ok-taken.ensures refl c.self.invariant)

pub returns : goal.returns
returns c =
    rw (← c.self.view_is, c.put.ensures, c.take_out.ensures.items, c.reserve.ensures.items, c.in_ok-push.ensures.items)
    (stepped_is c.self.inside.today.items c.self.inside.replaced.items _ c.args.was.now c.args.now.now c.args.made.now (rw (← c.self.view_is) at c.requires) c.in_ok-taken.ensures refl)

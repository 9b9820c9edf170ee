use Rattle.std.proofs.Common.{◌≡◌, arith}
use Rattle.opt_core.proofs.Legal.{begun}
use Rattle.opt_core.proofs.machine.Core.start.Goals as goal

pub invariant_of-result : goal.invariant_of-result
invariant_of-result g c =
    let m = g.S.System.means c.of.result.value in
    let shares : c.shares-shares.result ≡ m.shares c.args.goal = rw c.of.ensures c.shares-shares.ensures in
    let loud = c.in-Ok.ensures.items_if_clones_equal (λ y same. same) in
    rw (c.new.ensures.items, loud, shares, c.of-2.ensures) (begun m (g.met.S.System.lawful c.of.result.value) c.args.goal c.args.base c.args.left (omega arith) c.ranges.left.fits)

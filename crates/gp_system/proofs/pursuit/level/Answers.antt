use Rattle.std.proofs.Common.{◌≡◌, ◌<◌, ◌-◌, length, get_or, arith}
use Rattle.gp_journal.specs.Trail.{Trail}
use Rattle.gp_system.specs.inside.Pursued.{IsBehind}
use Rattle.gp_journal.proofs.Ways.{rest_set, first_set}
use Rattle.gp_system.proofs.Crews.{level_now}
use Rattle.gp_system.proofs.pursuit.level.Goals as goal

pub loop-replica-preserved : goal.loop-replica-preserved
loop-replica-preserved c =
    let below : c.loop-replica.replica-index < length c.loop-replica.replicas = omega (arith, c.loop-replica-test.true, c.loop-replica.auto.replicas) in
    let behind = c.loop-replica.invariant.behind c.loop-replica.replica-index c.replica-item.result (omega arith) below in
    record {
      behind = rest_set (IsBehind c.args.system.now c.args.entries.now c.args.trail.now) c.loop-replica.replicas c.loop-replica.replica-index c.follow.new.at c.loop-replica.invariant.behind;
      all = first_set (λ (t : Trail). t ≡ c.args.trail.now) c.loop-replica.replicas c.loop-replica.replica-index c.follow.new.at below
          (level_now c.args.system.now c.args.entries.now c.args.trail.now (get_or c.loop-replica.replicas c.loop-replica.replica-index c.replica-item.result) c.follow.new.at (c.depth.result - c.depth-in-loop-replica.result) behind (let d = behind.deep in let x = c.depth.ensures in let y = c.depth-in-loop-replica.ensures in omega arith) c.in_ok-follow.ensures.all)
          c.loop-replica.invariant.all;
    }

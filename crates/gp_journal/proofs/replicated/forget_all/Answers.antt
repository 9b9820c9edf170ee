use Rattle.std.proofs.Common.{◌≡◌, ◌<◌, ◌∙◌, ap, length, arith}
use Rattle.gp_journal.specs.Trail.{Trail, forgotten}
use Rattle.gp_journal.proofs.Ways.{rest_set, first_set}
use Rattle.gp_journal.proofs.replicated.forget_all.Goals as goal

pub loop-replica-preserved : goal.loop-replica-preserved
loop-replica-preserved c =
    let below : c.loop-replica.replica-index < length c.loop-replica.replicas = omega (arith, c.loop-replica-test.true, c.loop-replica.auto.replicas) in
    let was = c.loop-replica.invariant.there c.loop-replica.replica-index c.replica-item.result (omega arith) below in
    record {
      there = rest_set (λ (t : Trail). t ≡ c.args.trail.now) c.loop-replica.replicas c.loop-replica.replica-index c.forget.new.self c.loop-replica.invariant.there;
      all = first_set (λ (t : Trail). t ≡ forgotten c.args.trail.now) c.loop-replica.replicas c.loop-replica.replica-index c.forget.new.self below (c.forget.ensures.forgotten ∙ ap forgotten was) c.loop-replica.invariant.all;
    }

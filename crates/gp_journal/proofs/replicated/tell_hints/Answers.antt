use Rattle.std.proofs.Common.{◌≡◌, ◌<◌, ◌∙◌, length, arith}
use Rattle.gp_journal.specs.Trail.{Trail}
use Rattle.gp_journal.proofs.Ways.{rest_set, first_set}
use Rattle.gp_journal.proofs.replicated.tell_hints.Goals as goal

pub loop-replica-preserved : goal.loop-replica-preserved
loop-replica-preserved c =
    let below : c.loop-replica.replica-index < length c.loop-replica.replicas = omega (arith, c.loop-replica-test.true, c.loop-replica.auto.replicas) in
    let was = c.loop-replica.invariant.there c.loop-replica.replica-index c.replica-item.result (omega arith) below in
    record {
      there = rest_set (λ (t : Trail). t ≡ c.args.trail.now) c.loop-replica.replicas c.loop-replica.replica-index c.set_hints.new.self c.loop-replica.invariant.there;
      all = first_set (λ (t : Trail). t ≡ c.args.trail.now) c.loop-replica.replicas c.loop-replica.replica-index c.set_hints.new.self below (c.set_hints.ensures ∙ was) c.loop-replica.invariant.all;
    }

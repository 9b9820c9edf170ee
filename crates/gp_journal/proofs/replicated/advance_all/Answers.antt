use Rattle.std.proofs.Common.{◌≡◌, ◌<◌, ◌∙◌, ap, sym, subst, length, arith, map}
use Rattle.gp_syntax.specs.Tree.{rule_of_tree}
use Rattle.gp_journal.specs.Trail.{Trail, advanced}
use Rattle.gp_journal.specs.Leads.{AppliesWith}
use Rattle.gp_journal.proofs.Ways.{rest_set, first_set}
use Rattle.gp_journal.proofs.replicated.advance_all.Goals as goal

pub advance_told-requires : goal.advance_told-requires
advance_told-requires c =
    let below : c.loop-replica.replica-index < length c.loop-replica.replicas = omega (arith, c.loop-replica-test.true, c.loop-replica.auto.replicas) in
    subst (λ (t : Trail). AppliesWith (map rule_of_tree c.args.rules.now) t.graph c.args.found.now c.args.assignment.now) (sym (c.loop-replica.invariant.there c.loop-replica.replica-index c.replica-item.result (omega arith) below)) c.requires.applies

pub loop-replica-preserved : goal.loop-replica-preserved
loop-replica-preserved c =
    let below : c.loop-replica.replica-index < length c.loop-replica.replicas = omega (arith, c.loop-replica-test.true, c.loop-replica.auto.replicas) in
    let was = c.loop-replica.invariant.there c.loop-replica.replica-index c.replica-item.result (omega arith) below in
    record {
      there = rest_set (λ (t : Trail). t ≡ c.args.trail.now) c.loop-replica.replicas c.loop-replica.replica-index c.advance_told.new.self c.loop-replica.invariant.there;
      all = first_set (λ (t : Trail). t ≡ advanced (map rule_of_tree c.args.rules.now) c.args.trail.now c.args.found.now) c.loop-replica.replicas c.loop-replica.replica-index c.advance_told.new.self below (c.in_ok-advance_told.ensures.ok ∙ ap (λ (t : Trail). advanced (map rule_of_tree c.args.rules.now) t c.args.found.now) was) c.loop-replica.invariant.all;
    }

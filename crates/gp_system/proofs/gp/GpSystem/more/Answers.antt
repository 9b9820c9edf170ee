use Rattle.std.proofs.Common.{arith}
use Rattle.std.proofs.lemmas.Result.{on_ok_weaker}
use Rattle.gp_step.proofs.Afters.{numbered}
use Rattle.gp_system.proofs.Batches.{share_within, may_gather, are_gathered, is_full, none_outside, starts_so}
use Rattle.gp_system.proofs.gp.GpSystem.more.Goals as goal

pub new-part-requires : goal.new-part-requires
new-part-requires c =
    share_within c.args.self.now c.self.inside.planned c.self.inside.sets.now c.self.inside.shares c.args.goal c.args.share c.args.at.now c.args.limit c.args.held.now.items c.self.view_is c.self.invariant.0 c.requires

pub gather-requires : goal.gather-requires
gather-requires c =
    may_gather c.args.self.now c.self.inside.planned c.self.inside.sets.now c.self.inside.shares c.args.goal c.args.share c.args.at.now c.graph-graph.result.now.graph c.index-self-call.result c.as_slice-set.result.now c.new-rules.result c.new-part.result
    c.self.view_is c.self.invariant.0 c.self.invariant.1.well_formed (omega (arith, c.if-call-self.false)) c.as_slice-set.ensures c.graph-graph.ensures c.new-rules.ensures c.new-part.ensures c.args.limit c.args.held.now.items c.requires

pub returns-clause-held : goal.returns-clause-held
returns-clause-held c =
    are_gathered c.args.self.now c.self.inside.planned c.self.inside.sets.now c.self.inside.shares c.args.goal c.args.share c.args.at.now c.graph-graph.result.now.graph c.index-self-call.result c.as_slice-set.result.now c.new-rules.result c.new-part.result
    c.self.view_is c.self.invariant.0 c.self.invariant.1.well_formed (omega (arith, c.if-call-self.false)) c.as_slice-set.ensures c.graph-graph.ensures c.new-rules.ensures c.new-part.ensures c.args.limit c.args.held.now.items c.gather.new.held.items
    (numbered c.graph-graph.result.now.graph c.next_numbers-sound.ensures.sound) c.requires c.gather.ensures.first c.gather.ensures.held

pub returns-clause-full : goal.returns-clause-full
returns-clause-full c =
    on_ok_weaker c.gather.result
    (is_full c.args.self.now c.self.inside.planned c.self.inside.sets.now c.self.inside.shares c.args.goal c.args.share c.args.at.now c.graph-graph.result.now.graph c.index-self-call.result c.as_slice-set.result.now c.new-rules.result c.new-part.result
    c.self.view_is c.self.invariant.0 c.self.invariant.1.well_formed (omega (arith, c.if-call-self.false)) c.as_slice-set.ensures c.graph-graph.ensures c.new-rules.ensures c.new-part.ensures c.args.limit c.gather.new.held.items)
    c.gather.ensures.full

pub returns-then-call-self-clause-full : goal.returns-then-call-self-clause-full
returns-then-call-self-clause-full c = none_outside c.args.self.now c.self.inside.planned c.self.inside.sets.now _ c.args.goal c.args.share c.args.at.now c.args.limit c.args.held.now.items c.self.view_is (omega (arith, c.if-call-self.true))

pub returns-then-call-self-clause-first : goal.returns-then-call-self-clause-first
returns-then-call-self-clause-first c = starts_so c.args.held.now.items

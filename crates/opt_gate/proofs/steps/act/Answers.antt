use Rattle.std.proofs.Common.{◌∙◌, sym}
use Rattle.opt_gate.proofs.Taking.{may_follow, acted}
use Rattle.opt_gate.proofs.steps.act.Goals as goal

pub step-reply-requires-clause-event : goal.step-reply-requires-clause-event
step-reply-requires-clause-event g c =
    let k = c.requires.system in
    let l = c.take-core.ensures.took.learns in
    c.requires.event k.0 c.take-core.result k.1 (l.same k.0 k.1).0 l.further

pub hand_on-requires-clause-core : goal.hand_on-requires-clause-core
hand_on-requires-clause-core g c =
    let k = c.requires.system in
    let t = c.take-core.ensures.took in
    may_follow g.S.System.means c.args.s.now k.0 c.args.seat.now.me.0 k.1 k.2 c.take-core.result c.step-reply.new.self c.args.event c.step-reply.result c.asks_stop-is_stop.result c.asks_stop-is_stop.ensures
    c.take-core.new.seat.me t (c.requires.event k.0 c.take-core.result k.1 (t.learns.same k.0 k.1).0 t.learns.further) c.step-reply.ensures.answers

pub returns-clause-acts : goal.returns-clause-acts
returns-clause-acts g c =
    let t = c.take-core.ensures.took in
    let k = c.requires.system in
    let was = (t.learns.same k.0 k.1).0.system ∙ sym k.2 in
    let same = c.step-reply.ensures.start.system ∙ was in
    acted g.S.System.means c.args.s.now k.0 c.args.seat.now.me.0 k.1 k.2 c.take-core.result c.step-reply.new.self c.args.event c.step-reply.result c.asks_stop-is_stop.result c.asks_stop-is_stop.ensures
    c.take-core.new.seat.me t (c.requires.event k.0 c.take-core.result k.1 (t.learns.same k.0 k.1).0 t.learns.further) c.step-reply.ensures.answers c.hand_on.new.seat.me c.hand_on.ensures.me c.hand_on.ensures.shows
    (rw was at c.take-core.ensures.legal) (rw same at c.step-reply.ensures.legal)

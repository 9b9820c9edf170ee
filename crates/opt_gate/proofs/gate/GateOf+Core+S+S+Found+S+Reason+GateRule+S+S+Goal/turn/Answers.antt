use Rattle.std.proofs.Common.{◌∙◌, sym, ap, arith, subst}
use Rattle.opt_gate.specs.Lists.{StartsWith}
use Rattle.opt_gate.proofs.Turned.{asks_come, of_its_key, told_known, rests_again, room_stays, one_event, pass_then, told_then, ending_known, further_then, whole_then, closed_then, stays_then, applies_then, own_then}
use Rattle.opt_gate.proofs.gate.GateOf+Core+S+S+Found+S+Reason+GateRule+S+S+Goal.turn.Goals as goal

pub act-reply-requires-clause-system : goal.act-reply-requires-clause-system
act-reply-requires-clause-system g c =
    (c.args.self.now.key, ap (λ p. p.key) c.pass.view_is ∙ c.requires.gate.1, c.requires.system)

pub act-reply-requires-clause-event : goal.act-reply-requires-clause-event
act-reply-requires-clause-event g c =
    let m = g.S.System.means c.args.s.now in
    let v = c.pass.inside.seat.me.0 in
    let keyed = ap (λ p. p.key) c.pass.view_is ∙ c.requires.gate.1 in
    λ k core has_it same starts. asks_come m c.args.self.now.key.core.value core c.pass.inside.told v.knows (of_its_key v.key k c.args.self.now.key core has_it keyed same) starts c.pass.invariant.3 c.args.pass.now c.args.ask c.into_event-event.result c.into_event-event.ensures
    (sym (ap (λ p. p.told) c.pass.view_is)) (sym (ap (λ p. p.knows) c.pass.view_is)) c.requires.ask

pub invariant_of-pass : goal.invariant_of-pass
invariant_of-pass g c =
    let m = g.S.System.means c.args.s.now in
    let v = c.pass.inside.seat.me.0 in
    let keyed = ap (λ p. p.key) c.pass.view_is ∙ c.requires.gate.1 in
    let a = c.act-reply.ensures.acts in
    let rest = rests_again m (g.met.S.System.lawful c.args.s.now) c.args.self.now.key v c.pass.inside.seat.table_id c.pass.inside.number c.pass.inside.told c.pass.inside.room c.args.ask c.into_event-event.result c.act-reply.result c.act-reply.new.seat.me a
    c.into_event-event.ensures c.pass.invariant.3 keyed in
    let room = room_stays m (g.met.S.System.lawful c.args.s.now) c.args.self.now.key v c.pass.inside.seat.table_id c.pass.inside.number c.pass.inside.told c.pass.inside.room c.args.ask c.into_event-event.result c.act-reply.result c.act-reply.new.seat.me a
    c.into_event-event.ensures c.pass.invariant.3 keyed in
    let told = told_known m (g.met.S.System.lawful c.args.s.now) c.args.self.now.key v c.pass.inside.seat.table_id c.pass.inside.number c.pass.inside.told c.pass.inside.room c.args.ask c.into_event-event.result c.act-reply.result c.act-reply.new.seat.me a
    c.into_event-event.ensures c.pass.invariant.3 keyed in
    (rest, c.pass.invariant.1 ∙ sym room, c.pass.invariant.2, omega arith)

pub returns-clause-one_event : goal.returns-clause-one_event
returns-clause-one_event g c =
    let m = g.S.System.means c.args.s.now in
    let v = c.pass.inside.seat.me.0 in
    let keyed = ap (λ p. p.key) c.pass.view_is ∙ c.requires.gate.1 in
    one_event m (g.met.S.System.lawful c.args.s.now) c.args.self.now.key v c.pass.inside.seat.table_id c.pass.inside.number c.pass.inside.told c.pass.inside.room c.args.ask c.into_event-event.result c.act-reply.result c.act-reply.new.seat.me c.act-reply.ensures.acts
    c.into_event-event.ensures c.pass.invariant.3 keyed c.args.pass.now c.act-reply.new.seat.table_id c.told_then-pass-inside.result c.pass.view_is c.act-reply.ensures.same c.told_then-pass-inside.ensures

pub returns-clause-pass : goal.returns-clause-pass
returns-clause-pass g c =
    let m = g.S.System.means c.args.s.now in
    let v = c.pass.inside.seat.me.0 in
    let keyed = ap (λ p. p.key) c.pass.view_is ∙ c.requires.gate.1 in
    pass_then m (g.met.S.System.lawful c.args.s.now) c.args.self.now.key v c.pass.inside.seat.table_id c.pass.inside.number c.pass.inside.told c.pass.inside.room c.args.ask c.into_event-event.result c.act-reply.result c.act-reply.new.seat.me c.act-reply.ensures.acts
    c.into_event-event.ensures c.pass.invariant.3 keyed c.args.pass.now c.act-reply.new.seat.table_id c.told_then-pass-inside.result c.pass.view_is c.act-reply.ensures.same c.told_then-pass-inside.ensures

pub returns-clause-told : goal.returns-clause-told
returns-clause-told g c =
    let m = g.S.System.means c.args.s.now in
    let v = c.pass.inside.seat.me.0 in
    let keyed = ap (λ p. p.key) c.pass.view_is ∙ c.requires.gate.1 in
    told_then m (g.met.S.System.lawful c.args.s.now) c.args.self.now.key v c.pass.inside.seat.table_id c.pass.inside.number c.pass.inside.told c.pass.inside.room c.args.ask c.into_event-event.result c.act-reply.result c.act-reply.new.seat.me c.act-reply.ensures.acts
    c.into_event-event.ensures c.pass.invariant.3 keyed c.args.pass.now c.act-reply.new.seat.table_id c.told_then-pass-inside.result c.pass.view_is c.act-reply.ensures.same c.told_then-pass-inside.ensures

pub returns-clause-ending : goal.returns-clause-ending
returns-clause-ending g c =
    let m = g.S.System.means c.args.s.now in
    let v = c.pass.inside.seat.me.0 in
    let keyed = ap (λ p. p.key) c.pass.view_is ∙ c.requires.gate.1 in
    ending_known m (g.met.S.System.lawful c.args.s.now) c.args.self.now.key v c.pass.inside.seat.table_id c.pass.inside.number c.pass.inside.told c.pass.inside.room c.args.ask c.into_event-event.result c.act-reply.result c.act-reply.new.seat.me c.act-reply.ensures.acts
    c.into_event-event.ensures c.pass.invariant.3 keyed

pub returns-clause-whole : goal.returns-clause-whole
returns-clause-whole g c =
    let m = g.S.System.means c.args.s.now in
    let v = c.pass.inside.seat.me.0 in
    let keyed = ap (λ p. p.key) c.pass.view_is ∙ c.requires.gate.1 in
    whole_then m (g.met.S.System.lawful c.args.s.now) c.args.self.now.key v c.pass.inside.seat.table_id c.pass.inside.number c.pass.inside.told c.pass.inside.room c.args.ask c.into_event-event.result c.act-reply.result c.act-reply.new.seat.me c.act-reply.ensures.acts
    c.into_event-event.ensures c.pass.invariant.3 keyed c.act-reply.new.seat.table_id c.told_then-pass-inside.result c.pass.invariant.1

pub returns-clause-further : goal.returns-clause-further
returns-clause-further g c =
    let m = g.S.System.means c.args.s.now in
    let v = c.pass.inside.seat.me.0 in
    let keyed = ap (λ p. p.key) c.pass.view_is ∙ c.requires.gate.1 in
    subst (λ l. StartsWith c.act-reply.new.seat.me.0.knows l) (ap (λ p. p.knows) c.pass.view_is)
    (further_then m (g.met.S.System.lawful c.args.s.now) c.args.self.now.key v c.pass.inside.seat.table_id c.pass.inside.number c.pass.inside.told c.pass.inside.room c.args.ask c.into_event-event.result c.act-reply.result c.act-reply.new.seat.me c.act-reply.ensures.acts
    c.into_event-event.ensures c.pass.invariant.3 keyed)

pub returns-clause-applies : goal.returns-clause-applies
returns-clause-applies g c =
    let m = g.S.System.means c.args.s.now in
    let v = c.pass.inside.seat.me.0 in
    let keyed = ap (λ p. p.key) c.pass.view_is ∙ c.requires.gate.1 in
    applies_then m (g.met.S.System.lawful c.args.s.now) c.args.self.now.key v c.pass.inside.seat.table_id c.pass.inside.number c.pass.inside.told c.pass.inside.room c.args.ask c.into_event-event.result c.act-reply.result c.act-reply.new.seat.me c.act-reply.ensures.acts
    c.into_event-event.ensures c.pass.invariant.3 keyed

pub returns-clause-closed : goal.returns-clause-closed
returns-clause-closed g c =
    let m = g.S.System.means c.args.s.now in
    let v = c.pass.inside.seat.me.0 in
    let keyed = ap (λ p. p.key) c.pass.view_is ∙ c.requires.gate.1 in
    closed_then m (g.met.S.System.lawful c.args.s.now) c.args.self.now.key v c.pass.inside.seat.table_id c.pass.inside.number c.pass.inside.told c.pass.inside.room c.args.ask c.into_event-event.result c.act-reply.result c.act-reply.new.seat.me c.act-reply.ensures.acts
    c.into_event-event.ensures c.pass.invariant.3 keyed

pub returns-clause-stays : goal.returns-clause-stays
returns-clause-stays g c =
    let m = g.S.System.means c.args.s.now in
    let v = c.pass.inside.seat.me.0 in
    let keyed = ap (λ p. p.key) c.pass.view_is ∙ c.requires.gate.1 in
    stays_then m (g.met.S.System.lawful c.args.s.now) c.args.self.now.key v c.pass.inside.seat.table_id c.pass.inside.number c.pass.inside.told c.pass.inside.room c.args.ask c.into_event-event.result c.act-reply.result c.act-reply.new.seat.me c.act-reply.ensures.acts
    c.into_event-event.ensures c.pass.invariant.3 keyed c.args.pass.now c.act-reply.new.seat.table_id c.told_then-pass-inside.result c.pass.view_is c.act-reply.ensures.same c.told_then-pass-inside.ensures

pub returns-clause-own : goal.returns-clause-own
returns-clause-own g c =
    let m = g.S.System.means c.args.s.now in
    let v = c.pass.inside.seat.me.0 in
    let keyed = ap (λ p. p.key) c.pass.view_is ∙ c.requires.gate.1 in
    own_then m (g.met.S.System.lawful c.args.s.now) c.args.self.now.key v c.pass.inside.seat.table_id c.pass.inside.number c.pass.inside.told c.pass.inside.room c.args.ask c.into_event-event.result c.act-reply.result c.act-reply.new.seat.me c.act-reply.ensures.acts
    c.into_event-event.ensures c.pass.invariant.3 keyed c.act-reply.new.seat.table_id c.told_then-pass-inside.result

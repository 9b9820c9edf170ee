use Rattle.std.proofs.Common.{◌∙◌, sym, ap, ◌∷◌, Some}
use Rattle.atomic_table.specs.Table.{rest}
use Rattle.opt_gate.specs.inside.Cores.{entries_of, ended_of, IsOfKey, passes_of}
use Rattle.opt_gate.specs.inside.Plays.{waiting}
use Rattle.opt_gate.proofs.Taking.{took}
use Rattle.opt_gate.proofs.steps.take.Goals as goal

pub exchange-requires : goal.exchange-requires
exchange-requires g c =
    let t = c.watch.ensures.takes in
    let e = ap (λ m. m.1) t.1 in
    (c.watch.ensures.same ∙ (c.draw-ticket.ensures.same ∙ c.requires.table.0), (Some t.0, e ∙ ap (λ l. (0, Some t.0) ∷ rest l) (sym e)))

pub returns-clause-took : goal.returns-clause-took
returns-clause-took g c =
    let v = c.args.seat.now.me.0 in
    let d = c.draw-ticket.ensures.drew in
    took entries_of ended_of (IsOfKey g.S.System.means) passes_of v d.0 c.draw-ticket.new.seat.me c.watch.new.seat.me c.exchange.new.seat.me c.exchange.result c.unwrap-core.result
    (d.2 ∙ ap (λ m. (waiting v d.0, m.1)) c.requires.idle.0) c.watch.ensures.takes c.exchange.ensures.2 c.exchange.ensures.3 c.unwrap-core.ensures

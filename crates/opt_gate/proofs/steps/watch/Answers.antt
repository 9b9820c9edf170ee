use Rattle.std.proofs.Common.{arith, ◌∙◌, sym}
use Rattle.opt_gate.specs.inside.Cores.{entries_of, ended_of, IsOfKey, passes_of}
use Rattle.opt_gate.proofs.Watches.{watches_at}
use Rattle.opt_gate.proofs.steps.watch.Goals as goal

pub load-requires : goal.load-requires
load-requires g c =
    let d = c.requires.drawn in
    let t = d.2 in
    let size = c.requires.table in (
      c.loop.invariant.0 ∙ size.0,
      omega arith,
      watches_at entries_of ended_of (IsOfKey g.S.System.means) passes_of c.args.shared.now.key c.loop.seat.id t.0 c.args.shared.now.table_id.slots c.args.seat.now.me c.loop.seat.me c.loop.invariant.1 d.0 d.1 t.1,
    )

pub returns-then-load-ticket-clause-takes : goal.returns-then-load-ticket-clause-takes
returns-then-load-ticket-clause-takes g c =
    let t = c.requires.drawn.2 in
    let hit = (rw c.loop.invariant.1 at c.load.ensures.2) t.0 t.1 in
    hit.0 (t.2 ∙ sym c.if-load-ticket.true)

use Rattle.std.proofs.Common.{arith, true, false, ◌∙◌, ap, ◌∷◌, Some}
use mathlib.Core.Option as core
use Rattle.atomic_table.specs.Table.{rest, step}
use Rattle.opt_gate.specs.inside.Cores.{entries_of, ended_of, IsOfKey, passes_of}
use Rattle.opt_gate.proofs.Passes.{passes_on_at, shown_of}
use Rattle.opt_gate.proofs.steps.hand_on.Goals as goal

pub fetch_add-requires : goal.fetch_add-requires
fetch_add-requires g c =
    let t = c.requires.table in
    let h = c.requires.served in
    let may = rw c.if-is_stop.true at c.requires.core in
    let me = c.exchange.ensures.3 ∙ ap (λ l. (c.args.seat.now.me.0, (0, Some c.args.core) ∷ rest l)) h.1.1 in (
      c.exchange.ensures.0 ∙ t.0,
      omega arith,
      passes_on_at entries_of ended_of (IsOfKey g.S.System.means) passes_of c.args.shared.now.key c.exchange.new.seat.id c.args.seat.now.me.0 h.0 1 c.args.core may c.args.shared.now.table_id.slots (omega arith) c.exchange.new.seat.me me,
    )

pub fetch_add-requires-else-is_stop : goal.fetch_add-requires-else-is_stop
fetch_add-requires-else-is_stop g c =
    let t = c.requires.table in
    let h = c.requires.served in
    let may = rw c.if-is_stop.false at c.requires.core in
    let me = c.exchange.ensures.3 ∙ ap (λ l. (c.args.seat.now.me.0, (0, Some c.args.core) ∷ rest l)) h.1.1 in (
      c.exchange.ensures.0 ∙ t.0,
      omega arith,
      passes_on_at entries_of ended_of (IsOfKey g.S.System.means) passes_of c.args.shared.now.key c.exchange.new.seat.id c.args.seat.now.me.0 h.0 0 c.args.core may c.args.shared.now.table_id.slots (omega arith) c.exchange.new.seat.me me,
    )

pub returns-then-is_stop-clause-shows : goal.returns-then-is_stop-clause-shows
returns-then-is_stop-clause-shows g c =
    let h = c.requires.served in
    let me = c.exchange.ensures.3 ∙ ap (λ l. (c.args.seat.now.me.0, (0, Some c.args.core) ∷ rest l)) h.1.1 in
    shown_of entries_of ended_of (IsOfKey g.S.System.means) passes_of true c.args.is_stop (step c.args.shared.now.table_id.slots 0 1 0 core.none) c.exchange.new.seat.me c.fetch_add.new.seat.me c.args.seat.now.me.0 c.args.core c.fetch_add.result c.if-is_stop.true me c.fetch_add.ensures.2

pub returns-else-is_stop-clause-shows : goal.returns-else-is_stop-clause-shows
returns-else-is_stop-clause-shows g c =
    let h = c.requires.served in
    let me = c.exchange.ensures.3 ∙ ap (λ l. (c.args.seat.now.me.0, (0, Some c.args.core) ∷ rest l)) h.1.1 in
    shown_of entries_of ended_of (IsOfKey g.S.System.means) passes_of false c.args.is_stop (step c.args.shared.now.table_id.slots 0 1 0 core.none) c.exchange.new.seat.me c.fetch_add-else-is_stop.new.seat.me c.args.seat.now.me.0 c.args.core c.fetch_add-else-is_stop.result c.if-is_stop.false me c.fetch_add-else-is_stop.ensures.2

use Rattle.std.proofs.Common.{◌∙◌, refl, ap, arith}
use mathlib.Core.Option as core
use Rattle.atomic_table.specs.Table.{step}
use Rattle.opt_gate.specs.inside.Cores.{entries_of, ended_of, IsOfKey, passes_of}
use Rattle.opt_gate.specs.inside.Plays.{joined}
use Rattle.opt_gate.proofs.Joins.{joins_at}
use Rattle.opt_gate.proofs.Rests.{rests_at, shown_me, shown_all}
use Rattle.opt_gate.proofs.steps.unite.Goals as goal

pub join_seat-requires : goal.join_seat-requires
join_seat-requires g c =
    let t = c.requires.table in
    let i = c.requires.idle in
    let o = c.requires.other in (
      t.0,
      t.1,
      ap (λ m. m.1) o,
      omega arith,
      joins_at entries_of ended_of (IsOfKey g.S.System.means) passes_of c.args.shared.now.key c.args.seat.now.id c.args.other.id c.args.seat.now.me.0 c.args.other.me.0
          (ap (λ m. m.0.ticket) i.0) (ap (λ m. m.0.served) i.0) (ap (λ m. m.0.ticket) o) (ap (λ m. m.0.served) o) i.1,
    )

pub load-requires : goal.load-requires
load-requires g c =
    let t = c.requires.table in
    let i = c.requires.idle in
    let j = joined c.args.seat.now.me.0 c.args.other.me.0 in
    let me = c.join_seat.ensures.2 ∙ ap (λ m. (joined c.args.seat.now.me.0 c.args.other.me.0, m.1)) i.0 in (
      c.join_seat.ensures.0 ∙ t.0,
      omega arith,
      rests_at entries_of ended_of (IsOfKey g.S.System.means) passes_of c.args.shared.now.key c.join_seat.new.seat.id c.args.shared.now.table_id.slots j c.join_seat.new.seat.me me refl refl (omega arith),
    )

pub returns-clause-me : goal.returns-clause-me
returns-clause-me g c =
    let j = joined c.args.seat.now.me.0 c.args.other.me.0 in
    let me = c.join_seat.ensures.2 ∙ ap (λ m. (joined c.args.seat.now.me.0 c.args.other.me.0, m.1)) c.requires.idle.0 in
    shown_me passes_of (step c.args.shared.now.table_id.slots 0 0 0 core.none) j c.join_seat.new.seat.me c.load.new.seat.me c.load.result me c.load.ensures.2

pub returns-clause-shows : goal.returns-clause-shows
returns-clause-shows g c =
    let j = joined c.args.seat.now.me.0 c.args.other.me.0 in
    let me = c.join_seat.ensures.2 ∙ ap (λ m. (joined c.args.seat.now.me.0 c.args.other.me.0, m.1)) c.requires.idle.0 in
    shown_all passes_of (step c.args.shared.now.table_id.slots 0 0 0 core.none) j c.join_seat.new.seat.me c.load.new.seat.me c.load.result me c.load.ensures.2

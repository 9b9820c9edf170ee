use Rattle.std.proofs.Common.{arith}
use Rattle.opt_gate.specs.inside.Cores.{entries_of, ended_of, IsOfKey, passes_of}
use Rattle.opt_gate.proofs.Draws.{draws}
use Rattle.opt_gate.proofs.steps.draw.Goals as goal

pub fetch_add-requires : goal.fetch_add-requires
fetch_add-requires g c =
    let m = c.args.seat.now.me in
    let t = c.requires.table in
    let i = c.requires.idle in
    (t.0, omega arith, draws c.args.seat.now.id m.0 i.0 i.1 i.2 entries_of ended_of (IsOfKey g.S.System.means) passes_of c.args.shared.now.key c.args.shared.now.table_id.slots m.1)

use Rattle.std.proofs.Common.{◌≤◌, ◌∙◌, sym, ap, arith}
use Rattle.opt_gate.specs.inside.Cores.{entries_of, ended_of, IsOfKey, passes_of}
use Rattle.opt_gate.proofs.Splits.{splits}
use Rattle.opt_gate.proofs.pass.PassOf+Core+S+S+Found+S+Reason.split.Goals as goal

pub split_seat-seat-requires : goal.split_seat-seat-requires
split_seat-seat-requires g c =
    let v = c.self.inside.seat.me.0 in
    let i = c.self.invariant in
    let words = c.gate.invariant.0 in
    let same = ap (λ x. x.room) c.self.view_is in
    let two : 2 ≤ v.room = (let r = c.requires.room in let s = i.1 in omega arith) in (
      ap (λ x. x.table) c.self.view_is ∙ (c.requires.gate.0 ∙ sym (ap (λ x. x.table) c.gate.view_is)),
      omega arith,
      splits c.self.inside.seat.id v (ap (λ m. m.0.ticket) i.0) (ap (λ m. m.0.served) i.0) two entries_of ended_of (IsOfKey g.S.System.means) passes_of c.gate.inside.table.shared.key,
    )

use Rattle.std.proofs.Common.{sym, ◌∙◌}
use Rattle.gp_io.proofs.Pieces.{piece_added, some_byte, one_piece}
use Rattle.gp_io.proofs.mem_sink.MemSink.keep.Goals as goal

pub returns-then-not-is_empty : goal.returns-then-not-is_empty
returns-then-not-is_empty c =
    let e = rw c.unwrap.ensures at c.extend_from_slice.ensures.items in
    let p = rw c.unwrap-then-not-is_empty.ensures at c.push.ensures.items in
    let some = some_byte c.args.bytes.now (sym c.is_empty.ensures ∙ c.if-not-is_empty.true) in
    let added = piece_added c.self.inside.lengths.items c.self.inside.bytes.items c.args.bytes.now c.self.invariant.4 in
    rw (← c.self.view_is, one_piece c.args.bytes.now some, e, p, added)

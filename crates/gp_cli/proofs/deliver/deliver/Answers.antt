use Rattle.gp_cli.specs.inside.Parts.{whole, out_cut, err_cut}
use Rattle.gp_cli.proofs.Pieces.{takes_nothing}
use Rattle.gp_cli.proofs.deliver.deliver.Goals as goal

pub returns-in-Err : goal.returns-in-Err
returns-in-Err g c =
    let o = rw (c.deref.ensures.value, c.deref-2.ensures.value) at c.in-Err.ensures in
    rw c.code.ensures (out_cut o (takes_nothing (g.E.Sink.known c.args.err.now)))

pub returns-in-Err-write_piece : goal.returns-in-Err-write_piece
returns-in-Err-write_piece g c =
    let o = rw (c.deref.ensures.value, c.deref-2.ensures.value) at c.in-Ok.ensures in
    let e = rw c.deref-in-Ok.ensures.value at c.in-Err-write_piece.ensures in
    rw c.code-in-Err-write_piece.ensures (err_cut o e)

pub returns-in-Ok-write_piece : goal.returns-in-Ok-write_piece
returns-in-Ok-write_piece g c =
    let o = rw (c.deref.ensures.value, c.deref-2.ensures.value) at c.in-Ok.ensures in
    let e = rw c.deref-in-Ok.ensures.value at c.in-Ok-write_piece.ensures in
    rw c.code-in-Ok-write_piece.ensures (whole o e)

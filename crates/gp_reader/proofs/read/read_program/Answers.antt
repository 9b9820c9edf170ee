use Rattle.std.proofs.lemmas.Result.{err_from_is_err_and}
use Rattle.gp_reader.proofs.Texts.{scoped_refused, scoped_read}
use Rattle.gp_reader.proofs.read.read_program.Goals as goal

pub returns-in_err-rules : goal.returns-in_err-rules
returns-in_err-rules c =
    let p = err_from_is_err_and c.from_residual-in_err-rules.result c.from_residual-in_err-rules.ensures.1 in
    rw (p.1, p.2) (scoped_refused c.args.bytes.now c.in_ok-scoped.scoped c.in_ok-scoped.ensures c.rules.result.now c.rules.ensures c.in_err-rules.field-0.0 c.in_err-rules.ensures)

pub returns : goal.returns
returns c = scoped_read c.args.bytes.now c.in_ok-scoped.scoped c.in_ok-scoped.ensures c.rules.result.now c.rules.ensures c.in_ok-rules.rules c.finish.result c.in_ok-rules.ensures c.finish.ensures.rules c.finish.ensures.program

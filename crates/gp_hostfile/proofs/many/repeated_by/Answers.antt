use Rattle.std.proofs.Common.{rules, arith, ◌-◌, ◌≡◌, true}
use Rattle.std.proofs.lemmas.Result.{err_from_is_err_and}
use Rattle.gp_tokens.specs.Reading.{begins}
use Rattle.gp_tokens.proofs.Loops.{goes_further, fails, ends, runs_out}
use Rattle.gp_hostfile.proofs.many.repeated_by.Goals as goal
use Rattle.gp_hostfile.proofs.many.repeated_by.Goals.{else-each-test, then-each-test+then-not-begins}

pub returns-in_err-read_more : goal.returns-in_err-read_more
returns-in_err-read_more g c one is =
    let p = err_from_is_err_and c.from_residual.result c.from_residual.ensures.1 in
    let b : begins c.args.want c.each.tokens ≡ true = search rules in
    rw (p.1, p.2) (fails c.args.want one _ c.in_err-read_more.field-0.0 c.each.found.items (c.count-end.result - c.each.counter) c.each.tokens b (c.in_err-read_more.ensures one is) (omega arith) (c.each.invariant one is))

pub each-preserved : goal.each-preserved
each-preserved g c one is =
    let b : begins c.args.want c.each.tokens ≡ true = search rules in
    goes_further c.args.want one _ c.each.found.items c.read_more.new.found.items (c.count-end.result - c.each.counter) _ c.each.tokens c.read_more.new.tokens b (c.in_ok-read_more.ensures one is) (omega arith) (omega arith) (c.each.invariant one is)

pub returns : goal.returns
returns g c one is = elim c.each-test.branch [
  | else-each-test w ↦ runs_out c.args.want one _ c.each.found.items (c.count-end.result - c.each.counter) c.each.tokens (omega arith) (c.each.invariant one is)
  | then-each-test+then-not-begins w ↦ ends c.args.want one _ c.each.found.items (c.count-end.result - c.each.counter) c.each.tokens (search rules) (c.each.invariant one is)
]

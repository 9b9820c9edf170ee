use Rattle.std.proofs.Common.{rules, arith, sym, ◌-◌, ◌≡◌, true, false, Some}
use Rattle.std.specs.Prelude.{option_map}
use Rattle.std.proofs.lemmas.Result.{err_from_is_err_and}
use Rattle.gp_tokens.specs.Reading.{Fails, begins}
use Rattle.gp_hostfile.specs.inside.More.{more_of}
use Rattle.gp_tokens.proofs.Loops.{next_of}
use Rattle.gp_tokens.proofs.Loops.{goes_further, fails, ends, runs_out, next_is, behind_none, first_fails, begun}
use Rattle.gp_hostfile.proofs.many.separated_by.Goals as goal
use Rattle.gp_hostfile.proofs.many.separated_by.Goals.{else-each-test, then-each-test+then-not-eat}

pub returns-in_err-read_more : goal.returns-in_err-read_more
returns-in_err-read_more g c one is =
    let p = err_from_is_err_and c.from_residual-in_err-read_more.result c.from_residual-in_err-read_more.ensures.1 in
    rw (p.1, p.2) (first_fails c.args.sign one c.args.tokens.now c.in_err-read_more.field-0.0 (c.in_err-read_more.ensures one is))

pub each-init : goal.each-init
each-init g c one is = begun c.args.sign one c.args.tokens.now c.read_more.new.tokens c.read_more.new.found.items _ (omega arith) (rw c.in_ok-found.ensures.items at (c.in_ok-read_more.ensures one is))

pub returns-in_err-read_more-2 : goal.returns-in_err-read_more-2
returns-in_err-read_more-2 g c one is =
    let p = err_from_is_err_and c.from_residual-in_err-read_more-2.result c.from_residual-in_err-read_more-2.ensures.1 in
    let b : begins c.args.sign c.each.tokens ≡ true = search rules in
    let s : Fails c.in_err-read_more-2.field-0.0 (next_of c.args.sign one c.each.tokens) = rw (next_is c.args.sign one c.each.tokens b, sym c.eat.ensures.left) (c.in_err-read_more-2.ensures one is) in
    rw (p.1, p.2) (fails c.args.sign (next_of c.args.sign one) _ c.in_err-read_more-2.field-0.0 c.each.found.items (c.count-end.result - c.each.counter) c.each.tokens b s (omega arith) (c.each.invariant one is))

pub each-preserved : goal.each-preserved
each-preserved g c one is =
    let b : begins c.args.sign c.each.tokens ≡ true = search rules in
    let s : option_map (more_of c.each.found.items) (next_of c.args.sign one c.each.tokens) ≡ Some (c.read_more-in-each.new.found.items, c.read_more-in-each.new.tokens) =
    rw (next_is c.args.sign one c.each.tokens b, sym c.eat.ensures.left) (c.in_ok-read_more-2.ensures one is) in
    goes_further c.args.sign (next_of c.args.sign one) _ c.each.found.items c.read_more-in-each.new.found.items (c.count-end.result - c.each.counter) _ c.each.tokens c.read_more-in-each.new.tokens b s (omega arith) (omega arith) (c.each.invariant one is)

pub returns : goal.returns
returns g c one is = elim c.each-test.branch [
  | else-each-test w ↦ rw w.tokens-is (runs_out c.args.sign (next_of c.args.sign one) _ c.each.found.items (c.count-end.result - c.each.counter) c.each.tokens (omega arith) (c.each.invariant one is))
  | then-each-test+then-not-eat w ↦
      let b : begins c.args.sign c.each.tokens ≡ false = search rules in
      let e : c.each-test.tokens ≡ c.each.tokens = search (rules, behind_none c.args.sign c.each.tokens b) in
      rw e (ends c.args.sign (next_of c.args.sign one) _ c.each.found.items (c.count-end.result - c.each.counter) c.each.tokens b (c.each.invariant one is))
]

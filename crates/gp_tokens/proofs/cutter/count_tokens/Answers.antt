use Rattle.std.proofs.Common.{◌+◌, ◌∙◌, ◌∷◌, ◌++◌, [], sym, ap, take, drop, arith, length-append}
use Rattle.gp_tokens.specs.Lexed.{lexed, with_front}
use Rattle.gp_tokens.proofs.Steps.{token, skip_on, token_on, with_front-with_front}
use Rattle.gp_tokens.proofs.Cutting.{stuck_at, all_counted}
use Rattle.gp_tokens.proofs.cutter.count_tokens.Goals as goal

pub returns-in-Fault : goal.returns-in-Fault
returns-in-Fault c = stuck_at c.each.invariant.0 c.each.at c.each.rest.now c.args.text.now c.in-Fault.fault (omega (arith, c.each-test.true)) c.in-Fault.ensures.value c.each.invariant.2

pub each-preserved-in-Skip : goal.each-preserved-in-Skip
each-preserved-in-Skip c =
    let h = c.each.invariant in
    let e = skip_on c.each.at c.in-Skip.len c.each.rest.now (omega (arith, c.each-test.true)) c.in-Skip.ensures.within.0 c.in-Skip.ensures.value in
    (h.0, h.1, rw c.split_at.ensures.back (ap (with_front h.0) (sym e) ∙ h.2), omega (arith, h.3, c.split_at.ensures.back_len, c.in-Skip.ensures.within.1), omega (arith, h.4))

pub each-preserved : goal.each-preserved
each-preserved c =
    let h = c.each.invariant in
    let z = c.each.rest.now in
    let one = token c.in-Token.field-0 c.each.at (take c.in-Token.len z) ∷ [] in
    let e = token_on c.each.at c.in-Token.len c.in-Token.field-0 z (omega (arith, c.each-test.true)) c.in-Token.ensures.within.0 c.in-Token.ensures.value in
    let more = lexed 0 (c.each.at + c.in-Token.len) (drop c.in-Token.len z) in (
      h.0 ++ one,
      omega (arith, length-append h.0 one, h.1),
      rw c.split_at-in-Token.ensures.back (sym (with_front-with_front h.0 one more) ∙ ap (with_front h.0) (sym e) ∙ h.2),
      omega (arith, h.3, c.split_at-in-Token.ensures.back_len, c.in-Token.ensures.within.1),
      omega (arith, h.4, c.in-Token.ensures.within.0),
    )

pub returns : goal.returns
returns c = all_counted c.each.invariant.0 c.each.at c.each.count c.each.rest.now c.args.text.now (omega (arith, c.each-test.false)) c.each.invariant.1 (omega arith) c.each.invariant.2

use Rattle.std.proofs.Common.{◌∙◌, sym, arith}
use Rattle.gp_tokens.proofs.Steps.{skip_on}
use Rattle.gp_tokens.proofs.Cutting.{cut_on, no_fault}
use Rattle.gp_tokens.proofs.cutter.first_of.Goals as goal

pub each-preserved : goal.each-preserved
each-preserved c =
    let e = skip_on c.each.at c.in-Skip.len c.each.rest.now (omega (arith, c.each-test.true)) c.in-Skip.ensures.within.0 c.in-Skip.ensures.value in
    (rw c.split_at.ensures.back (sym e ∙ c.each.invariant.0), omega (arith, c.each.invariant.1, c.split_at.ensures.back_len, c.in-Skip.ensures.within.1))

pub returns-in-Token-clause-upcoming : goal.returns-in-Token-clause-upcoming
returns-in-Token-clause-upcoming c =
    let e = cut_on _ c.each.at c.in-Token.len c.in-Token.kind c.each.rest.now c.requires.faultless c.each.invariant.0 (omega (arith, c.each-test.true)) c.in-Token.ensures.within.0 c.in-Token.ensures.value in
    rw (c.new.ensures, c.split_at-in-Token.ensures.front, c.split_at-in-Token.ensures.back) e.0

pub returns-in-Token-clause-faultless : goal.returns-in-Token-clause-faultless
returns-in-Token-clause-faultless c =
    let e = cut_on _ c.each.at c.in-Token.len c.in-Token.kind c.each.rest.now c.requires.faultless c.each.invariant.0 (omega (arith, c.each-test.true)) c.in-Token.ensures.within.0 c.in-Token.ensures.value in
    rw c.split_at-in-Token.ensures.back e.1

pub unreachable-requires : goal.unreachable-requires
unreachable-requires c = no_fault _ c.each.at c.in-Fault.field-0 c.each.rest.now c.requires.faultless c.each.invariant.0 (omega (arith, c.each-test.true)) c.in-Fault.ensures.value

use Rattle.std.proofs.Common.{sym, ap, ◌∙◌}
use Rattle.std.specs.Prelude.{Some}
use Rattle.gp_io.proofs.Found.{at_test, at_end}
use Rattle.gp_io.proofs.mem_files.bytes_of.Goals as goal

pub returns-then-eq : goal.returns-then-eq
returns-then-eq c =
    ap Some c.as_slice.ensures.value
    ∙ sym (at_test _ _ _ _ _ _ c.loop-known-test.true c.loop-known-item.is c.as_str.ensures.value (sym c.eq.ensures ∙ c.if-eq.true))
    ∙ c.loop-known.invariant

pub loop-known-preserved : goal.loop-known-preserved
loop-known-preserved c =
    sym (at_test _ _ _ _ _ _ c.loop-known-test.true c.loop-known-item.is c.as_str.ensures.value (sym c.eq.ensures ∙ c.if-eq.false))
    ∙ c.loop-known.invariant

pub returns : goal.returns
returns c = sym (at_end _ _ _ c.loop-known-test.false) ∙ c.loop-known.invariant

use Rattle.std.proofs.Common.{arith, refl, length}
use Rattle.std.proofs.lemmas.List.Elements.{Contains-get_or}
use Rattle.gp_reader.proofs.Lists.{none_marked}
use Rattle.gp_reader.proofs.calls.calls_marked.Goals as goal

pub bounds-marks-callee : goal.bounds-marks-callee
bounds-marks-callee c = c.requires _ (Contains-get_or c.args.called.now c.loop-callee.callee-index 0 c.loop-callee-test.true)

pub returns-clause-none : goal.returns-clause-none
returns-clause-none c =
    λ h. absurd (none_marked c.args.called.now c.args.marks.now (length c.args.called.now) refl (λ i lt. c.loop-callee.invariant i (omega (arith, c.loop-callee-test.false, lt))) h)

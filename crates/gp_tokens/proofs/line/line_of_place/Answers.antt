use Rattle.std.proofs.Common.{◌≡◌, ◌+◌, suc, ◌∙◌, Some, None, sym, arith}
use Rattle.std.specs.Prelude.{slice_get}
use Rattle.gp_tokens.proofs.Cutting.{place_some, place_none, stepped}
use Rattle.gp_tokens.proofs.line.line_of_place.Goals as goal

pub returns-in-Some : goal.returns-in-Some
returns-in-Some c =
    let n : c.skipped.counter ≡ c.args.place = omega (arith, c.skipped-test.false) in
    let e : slice_get c.args.tokens c.args.place ≡ Some c.in-Some.token = place_some c.args.place c.args.tokens c.step-2.new.self c.in-Some.token (rw (← n) (sym c.skipped.invariant ∙ c.in-Some.ensures)) in
    rw e c.line_at.ensures

pub returns-in-None : goal.returns-in-None
returns-in-None c =
    let n : c.skipped.counter ≡ c.args.place = omega (arith, c.skipped-test.false) in
    let e : slice_get c.args.tokens c.args.place ≡ None = place_none c.args.place c.args.tokens (rw (← n) (sym c.skipped.invariant ∙ c.in-None.ensures.0)) in
    rw e c.line_at-in-None.ensures

pub skipped-preserved : goal.skipped-preserved
skipped-preserved c =
    let k : c.skipped.counter + 1 ≡ suc c.skipped.counter = omega arith in
    rw k (stepped c.skipped.counter c.args.tokens c.skipped.left c.step.new.self c.step.result c.skipped.invariant c.step.ensures)

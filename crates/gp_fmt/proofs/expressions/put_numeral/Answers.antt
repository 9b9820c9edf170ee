use Rattle.std.proofs.Common.{◌≡◌, ap, ◌∙◌, unsigned_abs, rules}
use mir.Val.{SFits}
use mir.Syntax.{w128}
use Rattle.std.proofs.lemmas.Int.{to_z-of_z}
use Rattle.gp_fmt.proofs.Numerals.{numeral_below, numeral_above}
use Rattle.gp_fmt.proofs.Puts.{and_then}
use Rattle.gp_fmt.proofs.expressions.put_numeral.Goals as goal

pub returns-then-value-ge0 : goal.returns-then-value-ge0
returns-then-value-ge0 c =
    let fits : SFits w128 c.args.value.now = search rules in
    let back = to_z-of_z w128 c.args.value.now fits in
    let u : c.unsigned_abs.result ≡ unsigned_abs c.args.value.now = c.unsigned_abs.ensures.value ∙ ap unsigned_abs back in
    rw (← numeral_above c.args.value.now (rw back at c.if-value-ge0.true), ← u) c.put.ensures

pub returns-else-value-ge0 : goal.returns-else-value-ge0
returns-else-value-ge0 c =
    let fits : SFits w128 c.args.value.now = search rules in
    let back = to_z-of_z w128 c.args.value.now fits in
    let u : c.unsigned_abs-else-value-ge0.result ≡ unsigned_abs c.args.value.now = c.unsigned_abs-else-value-ge0.ensures.value ∙ ap unsigned_abs back in
    rw (← numeral_below c.args.value.now (rw back at c.if-value-ge0.false), ← u) (and_then c.put-else-value-ge0.ensures c.put-else-value-ge0-2.ensures)

use Rattle.std.proofs.Common.{rules}
use mir.Val.{SFits}
use mir.Syntax.{w128}
use Rattle.std.proofs.lemmas.Int.{to_z-of_z}
use Rattle.gp_fmt.proofs.Numerals.{is_without_minus}
use Rattle.gp_fmt.proofs.expressions.is_from_zero.Goals as goal

pub returns : goal.returns
returns c =
    let fits : SFits w128 c.args.value.now = search rules in
    rw (to_z-of_z w128 c.args.value.now fits) (is_without_minus c.args.value.now)

use Rattle.std.proofs.Common.{◌∙◌, ap, rules}
use mir.Val.{SFits}
use mir.Syntax.{w128}
use Rattle.std.proofs.lemmas.Int.{to_z-of_z}
use Rattle.gp_syntax.specs.Expression.{Number}
use Rattle.gp_syntax.proofs.Trees.{label_of-Number}
use Rattle.gp_check.proofs.expression.number_label.Goals as goal

pub returns : goal.returns
returns c =
    let f : SFits w128 c.args.z.now = search rules in
    label_of-Number _ ∙ ap (Number) (to_z-of_z w128 c.args.z.now f)

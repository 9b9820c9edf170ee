use Rattle.std.proofs.Common.{◌∙◌, ap, rules}
use mir.Val.{SFits}
use mir.Syntax.{w128}
use Rattle.std.proofs.lemmas.Int.{to_z-of_z}
use Rattle.gp_syntax.specs.Expression.{Number, Negated}
use Rattle.gp_syntax.proofs.Trees.{label_of-NegatedNumber}
use Rattle.gp_check.proofs.expression.negated_number.Goals as goal

pub returns : goal.returns
returns c =
    let f : SFits w128 c.args.z.now = search rules in
    label_of-NegatedNumber _ ∙ ap (λ z. Negated (Number z)) (to_z-of_z w128 c.args.z.now f)

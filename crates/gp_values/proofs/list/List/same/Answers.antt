use Rattle.std.proofs.Common.{sym, ◌∙◌}
use Rattle.gp_values.specs.EqualityLaws.{same_list-Decides}
use Rattle.gp_values.proofs.list.List.same.Goals as goal

pub returns : goal.returns
returns c =
    let decides = same_list-Decides c.args.self.now c.args.other.now in
    (λ h. decides.0 (sym c.eq.ensures ∙ h), λ e. c.eq.ensures ∙ decides.1 e)

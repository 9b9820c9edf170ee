use Rattle.gp_syntax.proofs.Constants.{matches_apply}
use Rattle.gp_syntax.proofs.laws.faultless_rules_apply.Goals as goal

pub returns : goal.returns
returns c = matches_apply

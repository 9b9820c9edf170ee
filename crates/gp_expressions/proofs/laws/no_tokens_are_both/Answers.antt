use Rattle.gp_expressions.proofs.Exclusion.{never_both}
use Rattle.gp_expressions.proofs.laws.no_tokens_are_both.Goals as goal

pub returns : goal.returns
returns c = never_both

use Rattle.gp_tokens.proofs.Converses.{tokens_are_the_cut, refusals_are_the_fault}
use Rattle.gp_tokens.proofs.laws.tokens_are_the_cut.Goals as goal

pub returns : goal.returns
returns c = record { tokens = tokens_are_the_cut; refusals = refusals_are_the_fault }

use Rattle.gp_match.proofs.Judges.{judged_match}
use Rattle.gp_match.proofs.laws.matches_are_judged.Goals as goal

pub returns : goal.returns
returns c = judged_match

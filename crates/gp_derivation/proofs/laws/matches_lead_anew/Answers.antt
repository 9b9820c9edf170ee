use Rattle.gp_derivation.proofs.Anew.{leads_anew}
use Rattle.gp_derivation.proofs.laws.matches_lead_anew.Goals as goal

pub returns : goal.returns
returns c = leads_anew

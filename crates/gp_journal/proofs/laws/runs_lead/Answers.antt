use Rattle.gp_journal.proofs.Running.{all_lead}
use Rattle.gp_journal.proofs.laws.runs_lead.Goals as goal

pub returns : goal.returns
returns c = all_lead

use Rattle.gp_system.proofs.Pursuits.{entries_call}
use Rattle.gp_system.proofs.laws.entries_are_calls.Goals as goal

pub returns : goal.returns
returns c = entries_call

use Rattle.gp_journal.proofs.Stacks.{all_replay}
use Rattle.gp_journal.proofs.laws.trails_and_journals_replay.Goals as goal

pub returns : goal.returns
returns c = all_replay

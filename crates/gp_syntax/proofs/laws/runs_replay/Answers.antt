use Rattle.gp_syntax.proofs.Runs.{replays}
use Rattle.gp_syntax.proofs.laws.runs_replay.Goals as goal

pub returns : goal.returns
returns c = replays

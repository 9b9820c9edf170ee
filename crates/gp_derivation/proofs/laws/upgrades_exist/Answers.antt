use Rattle.gp_derivation.proofs.Existing.{replayed_upgraded}
use Rattle.gp_derivation.proofs.laws.upgrades_exist.Goals as goal

pub returns : goal.returns
returns c = λ rules host s w n replays. replayed_upgraded rules host w n s replays

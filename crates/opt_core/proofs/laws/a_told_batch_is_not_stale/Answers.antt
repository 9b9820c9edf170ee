use Rattle.opt_core.proofs.Runs.{not_stale_told}
use Rattle.opt_core.proofs.laws.a_told_batch_is_not_stale.Goals as goal

pub returns : goal.returns
returns g c = λ s. not_stale_told _ (g.S.System.means s) (g.met.S.System.lawful s)

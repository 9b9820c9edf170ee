use Rattle.opt_core.proofs.Runs.{base_is_back}
use Rattle.opt_core.proofs.laws.base_is_the_state_taken_back.Goals as goal

pub returns : goal.returns
returns g c = λ s. base_is_back _ (g.S.System.means s) (g.met.S.System.lawful s)

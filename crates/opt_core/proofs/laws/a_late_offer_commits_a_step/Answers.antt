use Rattle.opt_core.proofs.Runs.{late_steps}
use Rattle.opt_core.proofs.laws.a_late_offer_commits_a_step.Goals as goal

pub returns : goal.returns
returns g c = λ s. late_steps _ (g.S.System.means s)

-- How a run ended, with what it leaves.
use Rattle.gp_run.specs.declared.interpreter.Finish.{Finish}
use Rattle.gp_run.specs.declared.interpreter.Finish.TheVariants as finish
use Rattle.gp_system.specs.declared.outcome.Ran.{Ran}
use Rattle.gp_system.specs.declared.outcome.Outcome.{Outcome}
use Rattle.gp_system.specs.declared.outcome.Outcome.TheVariants as outcome

abbrev pub outcome_of : Finish → Ran → Outcome
outcome_of finish.Graph r = outcome.Graph r
outcome_of finish.Fail r = outcome.Fail r
outcome_of finish.Bound r = outcome.Bound r
outcome_of (finish.Fault rule kind) r = outcome.Fault r rule kind
outcome_of finish.NoMemory r = outcome.NoMemory

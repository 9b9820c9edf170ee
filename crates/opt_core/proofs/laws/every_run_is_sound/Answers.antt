use Rattle.opt_core.proofs.Runs.{every_run, from_start}
use Rattle.opt_core.proofs.laws.every_run_is_sound.Goals as goal

pub returns : goal.returns
returns g c = record {
  legal_core = λ s. every_run _ (g.S.System.means s) (g.met.S.System.lawful s);
  from_start = λ s. from_start _ (g.S.System.means s) (g.met.S.System.lawful s);
}

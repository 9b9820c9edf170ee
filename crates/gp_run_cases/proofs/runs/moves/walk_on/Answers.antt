use Rattle.gp_run_cases.proofs.runs.moves.walk_on.Goals.{then-below-eq0+in_ok-back, else-below-eq0+in_ok-forward}
use Rattle.gp_run_cases.proofs.runs.moves.walk_on.Goals as goal

pub loop-preserved : goal.loop-preserved
loop-preserved c = elim c.if-below-eq0.branch [ then-below-eq0+in_ok-back w ↦ rw w.stepper-is w.back.ensures | else-below-eq0+in_ok-forward w ↦ rw w.stepper-is w.forward.ensures ]

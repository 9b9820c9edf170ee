use Rattle.std.proofs.Common.{arith}
use Rattle.std.proofs.lemmas.Grind.{common_steps}
use Rattle.gp_step.proofs.edits.keep_edges.Goals as goal

pub keeps-preserved : goal.keeps-preserved
keeps-preserved c = grind (arith, common_steps)

use Rattle.std.proofs.Common.{arith}
use Rattle.std.proofs.lemmas.Grind.{common_steps}
use Rattle.gp_step.proofs.edits.relabel_nodes.Goals as goal

pub relabels-preserved : goal.relabels-preserved
relabels-preserved c = grind (arith, common_steps)

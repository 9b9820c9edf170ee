use Rattle.gp_gen.proofs.Examples.{tree_computes}
use Rattle.gp_gen.proofs.laws.tree_example.Goals as goal

pub returns : goal.returns
returns c = tree_computes

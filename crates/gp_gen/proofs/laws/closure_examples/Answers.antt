use Rattle.gp_gen.proofs.Examples.{closure_computes}
use Rattle.gp_gen.proofs.laws.closure_examples.Goals as goal

pub returns : goal.returns
returns c = closure_computes

use Rattle.gp_gen.proofs.Examples.{colour_computes}
use Rattle.gp_gen.proofs.laws.colour_examples.Goals as goal

pub returns : goal.returns
returns c = colour_computes

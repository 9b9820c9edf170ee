use Rattle.gp_program.proofs.Depths.{finds}
use Rattle.gp_program.proofs.depth.first_too_deep.Goals as goal

pub returns : goal.returns
returns c = finds c.args.tokens.now c.first_deep.result c.first_deep.ensures

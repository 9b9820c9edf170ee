use Rattle.gp_syntax.proofs.Constants.{constants}
use Rattle.gp_syntax.proofs.laws.constants_have_their_value.Goals as goal

pub returns : goal.returns
returns c = constants

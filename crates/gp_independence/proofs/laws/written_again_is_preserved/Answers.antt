use Rattle.gp_independence.proofs.Written.{written_again}
use Rattle.gp_independence.proofs.laws.written_again_is_preserved.Goals as goal

pub returns : goal.returns
returns c = written_again

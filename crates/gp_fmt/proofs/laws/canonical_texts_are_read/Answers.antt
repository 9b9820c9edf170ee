use Rattle.gp_fmt.proofs.Again.{are_read}
use Rattle.gp_fmt.proofs.laws.canonical_texts_are_read.Goals as goal

pub returns : goal.returns
returns c = are_read

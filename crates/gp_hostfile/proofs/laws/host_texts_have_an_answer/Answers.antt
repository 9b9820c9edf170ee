use Rattle.gp_hostfile.proofs.Answered.{answered}
use Rattle.gp_hostfile.proofs.laws.host_texts_have_an_answer.Goals as goal

pub returns : goal.returns
returns c = answered

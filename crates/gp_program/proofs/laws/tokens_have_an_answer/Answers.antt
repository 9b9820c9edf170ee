use Rattle.gp_program.proofs.Parsing.{an_answer}
use Rattle.gp_program.proofs.laws.tokens_have_an_answer.Goals as goal

pub returns : goal.returns
returns c = an_answer

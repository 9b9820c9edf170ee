use Rattle.gp_fmt.proofs.Puts.{and_then}
use Rattle.gp_fmt.proofs.expressions.put_applied.Goals as goal

pub returns : goal.returns
returns c = and_then c.word.ensures (and_then c.sign.ensures (and_then c.name.ensures c.sign-2.ensures))

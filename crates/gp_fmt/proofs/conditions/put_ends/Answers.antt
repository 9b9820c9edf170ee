use Rattle.gp_fmt.proofs.Puts.{and_then}
use Rattle.gp_fmt.proofs.conditions.put_ends.Goals as goal

pub returns : goal.returns
returns c = and_then c.word.ensures (and_then c.sign.ensures (and_then c.name.ensures (and_then c.sign-2.ensures c.name-2.ensures)))

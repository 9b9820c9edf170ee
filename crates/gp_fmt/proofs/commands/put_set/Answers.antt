use Rattle.gp_fmt.proofs.Puts.{and_then}
use Rattle.gp_fmt.proofs.commands.put_set.Goals as goal

pub returns : goal.returns
returns c = and_then c.sign.ensures (and_then c.put_names.ensures c.sign-2.ensures)

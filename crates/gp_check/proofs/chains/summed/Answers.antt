use Rattle.gp_check.proofs.Pushes.{sum_grown}
use Rattle.gp_check.proofs.chains.summed.Goals as goal

pub returns : goal.returns
returns c = sum_grown c.args.total c.into_sum.result (record { sign = c.args.sign; operand = c.args.operand }) (c.in_ok-first.first, c.in_ok-first.rest) c.into_sum.ensures c.in_ok-first.ensures

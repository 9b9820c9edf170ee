use Rattle.gp_check.proofs.Pushes.{product_grown}
use Rattle.gp_check.proofs.chains.multiplied.Goals as goal

pub returns : goal.returns
returns c = product_grown c.args.total c.into_product.result (record { sign = c.args.sign; operand = c.args.operand }) (c.in_ok-first.first, c.in_ok-first.rest) c.into_product.ensures c.in_ok-first.ensures

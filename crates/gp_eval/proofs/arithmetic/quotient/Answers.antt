use Rattle.std.proofs.Common.{rules, ap, of_z}
use Rattle.std.specs.Int.{w128}
use Rattle.gp_eval.proofs.Chains.{quotient_is}
use Rattle.gp_eval.proofs.arithmetic.quotient.Goals as goal

pub returns : goal.returns
returns c = rw (quotient_is c.args.x c.args.y (λ h. c.if-y-eq0.false (ap (of_z w128) h))) (search rules)

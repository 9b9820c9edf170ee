use Rattle.std.proofs.Common.{ap}
use Rattle.gp_fmt.specs.Expressions.{label}
use Rattle.gp_fmt.proofs.Puts.{and_then, told, nothing}
use Rattle.gp_fmt.proofs.expressions.put_label.Goals as goal

pub returns-in-None : goal.returns-in-None
returns-in-None c = told (ap (λ m. label c.args.e.now m) c.in-None.is) (and_then c.put_expression.ensures nothing)

pub returns-in-Some : goal.returns-in-Some
returns-in-Some c = told (ap (λ m. label c.args.e.now m) c.in-Some.is) (and_then c.put_expression.ensures (and_then c.sign.ensures c.name.ensures))

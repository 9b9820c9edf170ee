use Rattle.std.proofs.Common.{rules, sym}
use Rattle.gp_expressions.proofs.RowLaws.{signed_on, sign_kept}
use Rattle.gp_expressions.proofs.expression.signed.Goals as goal

pub loop-part-preserved : goal.loop-part-preserved
loop-part-preserved g c = (
  signed_on c.args.head c.args.sign c.loop-part.yielded c.in-Some.part _ _ _ _ _ c.in_ok-push.ensures.ok (search rules) c.loop-part.invariant.1 c.loop-part.invariant.0,
  sym (sign_kept c.args.head c.args.sign c.loop-part.yielded c.in-Some.part),
)

use Rattle.std.proofs.Common.{ap, ◌∙◌}
use Rattle.std.specs.Option.{option_or}
use Rattle.gp_expressions.specs.declared.ranged.Ranged.{Ranged}
use Rattle.gp_expressions.proofs.Gathers.{tree_more, past_more}
use Rattle.gp_expressions.proofs.ranged.gather.Goals as goal

pub loop-part-preserved : goal.loop-part-preserved
loop-part-preserved g c = (
  c.in_ok-push.ensures.ok ∙ tree_more (λ (r : Ranged _). r.tree) c.loop-part.trees c.loop-part.yielded c.in-Some.part c.loop-part.invariant.0,
  let p = past_more c.loop-part.yielded c.in-Some.part in cc,
)

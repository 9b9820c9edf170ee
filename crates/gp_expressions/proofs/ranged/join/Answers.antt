use Rattle.std.proofs.Common.{ap, ◌∙◌}
use Rattle.std.specs.Option.{option_or}
use Rattle.gp_expressions.specs.declared.ranged.Ranged.{Ranged}
use Rattle.gp_expressions.proofs.Gathers.{list_behind, past_behind}
use Rattle.gp_expressions.proofs.ranged.join.Goals as goal

pub loop-part-preserved : goal.loop-part-preserved
loop-part-preserved g c = (
  c.in_ok-append.ensures ∙ list_behind (λ (r : Ranged _). r.tree) c.args.first.tree c.loop-part.tree c.loop-part.yielded c.in-Some.part c.loop-part.invariant.0,
  let p = past_behind c.args.first c.loop-part.yielded c.in-Some.part in cc,
)

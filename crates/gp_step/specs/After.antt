-- The graph that a match leads to, as a function. The laws tie it to `Step`.
use Rattle.std.specs.Prelude.{Option, Some, None}
use Rattle.gp_values.specs.Graph.{Graph}
use Rattle.gp_syntax.specs.Value.{Assignment}
use Rattle.gp_syntax.specs.Rule.{Rule, Found}
use Rattle.gp_unify.specs.Candidate.{candidate}
use Rattle.gp_step.specs.Edits.{stepped}

abbrev pub after_at : Rule → Graph → Found → Option Assignment → Graph
after_at r g m None = g
after_at r g m (Some a) = stepped r g m a

unfoldable pub after : Rule → Graph → Found → Graph
after r g m = after_at r g m (candidate r g m)

-- The values by which the left labels fit, and by which alone it can be a match.
use Rattle.std.specs.Prelude.{◌≡◌}
use Rattle.gp_values.specs.Graph.{Graph}
use Rattle.gp_syntax.specs.Assigned.{PartialAssignment, IsWhole, assigned_of}
use Rattle.gp_syntax.specs.Value.{Assignment}
use Rattle.gp_syntax.specs.Rule.{Rule, Found}
use Rattle.gp_syntax.specs.Match.{MatchBy}
use Rattle.gp_unify.specs.Matched.{LabelsFit}

pub record FitsAlone (r : Rule) (g : Graph) (m : Found) (p : PartialAssignment) : Type 0 where
  pub types : p.types ≡ r.types
  pub whole : IsWhole p
  pub fit : LabelsFit r g m (assigned_of p)
  pub alone : (a : Assignment) → MatchBy r g m a → a ≡ assigned_of p

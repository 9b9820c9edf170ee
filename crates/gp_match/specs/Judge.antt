-- What a match is judged to be, as a function of rule, host and match. The laws tie it to `Applies` and `IsFaulty`.
use Rattle.std.specs.Prelude.{Bool, true, false, if◌then◌else◌, Option, Some, None}
use Rattle.gp_values.specs.Graph.{Graph}
use Rattle.gp_syntax.specs.declared.kinds.NumberKind.{NumberKind}
use Rattle.gp_syntax.specs.Value.{Assignment, Valued, Value, NoValue}
use Rattle.gp_syntax.specs.Truth.{truth_of}
use Rattle.gp_syntax.specs.Rule.{Rule, Found}
use Rattle.gp_syntax.specs.Match.{setting_of}
use Rattle.gp_syntax.specs.Step.{first_fault, right_labels}
use Rattle.gp_unify.specs.Candidate.{candidate}
use Rattle.gp_match.specs.Tests.{is_match}

pub data Judged : Type 0 where
  applies : Judged
  faulty : NumberKind → Judged
  neither : Judged

abbrev pub outcome : Valued Bool → Option NumberKind → Judged
outcome (NoValue k) fault = faulty k
outcome (Value false) fault = neither
outcome (Value true) None = applies
outcome (Value true) (Some k) = faulty k

abbrev pub judged_by : Rule → Graph → Found → Assignment → Judged
judged_by r g m a = if is_match r g m a then outcome (truth_of r.condition (setting_of r g m a)) (first_fault (right_labels r) (setting_of r g m a)) else neither

abbrev pub judged_at : Rule → Graph → Found → Option Assignment → Judged
judged_at r g m None = neither
judged_at r g m (Some a) = judged_by r g m a

-- shut, so that contracts speak of it as of one thing; its laws open it
unfoldable pub judged : Rule → Graph → Found → Judged
judged r g m = judged_at r g m (candidate r g m)

-- What a verdict on a match says.
use Rattle.gp_memory.specs.Free.{Free}
use Rattle.gp_values.specs.Graph.{Graph}
use Rattle.gp_syntax.specs.declared.kinds.NumberKind.{NumberKind}
use Rattle.gp_syntax.specs.Rule.{Rule, Found}
use Rattle.gp_syntax.specs.Step.{Applies, IsFaulty}
use Rattle.gp_match.specs.declared.check.Verdict.{Verdict}
use Rattle.gp_match.specs.declared.check.Verdict.TheVariants as verdict

-- No is said of no applying match and of no faulty one; want of memory says nothing
abbrev pub Judges : Verdict → Rule → Graph → Found → Type 0
Judges verdict.Applies r g m = Applies r g m
Judges (verdict.Faulty kind) r g m = IsFaulty r g m kind
Judges verdict.No r g m = (Applies r g m → ⊥) × ((kind : NumberKind) → IsFaulty r g m kind → ⊥)
Judges verdict.NoMemory r g m = Free

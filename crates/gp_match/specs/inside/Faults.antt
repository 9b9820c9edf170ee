-- What is answered of a condition and of the right labels at a match.
use Rattle.std.specs.Prelude.{◌≡◌, ◌⊎◌, Bool, true, false, Option, Some, None}
use Rattle.gp_memory.specs.Free.{Free}
use Rattle.gp_syntax.specs.declared.kinds.NumberKind.{NumberKind}
use Rattle.gp_syntax.specs.Value as meant
use Rattle.gp_eval.specs.declared.valued.Valued.{Valued}
use Rattle.gp_eval.specs.declared.valued.Valued.TheVariants.{Value, NoValue, NoMemory}
use Rattle.gp_match.specs.declared.check.Verdict.{Verdict}
use Rattle.gp_match.specs.declared.check.Verdict.TheVariants as verdict

-- each label has a value, or the first that has none has none of that kind
abbrev pub Faults : Valued (Unit {0}) → Option NumberKind → Type 0
Faults (Value u) f = f ≡ None
Faults (NoValue kind) f = f ≡ Some kind
Faults NoMemory f = Free

abbrev pub JudgedBy : Verdict → meant.Valued Bool → Option NumberKind → Type 0
JudgedBy verdict.Applies v f = (v ≡ meant.Value true) × (f ≡ None)
JudgedBy (verdict.Faulty kind) v f = (v ≡ meant.NoValue kind) ⊎ ((v ≡ meant.Value true) × (f ≡ Some kind))
JudgedBy verdict.No v f = v ≡ meant.Value false
JudgedBy verdict.NoMemory v f = Free

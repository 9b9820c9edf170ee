-- What the calls of a system answer.
use Rattle.std.specs.Prelude.{◌≡◌, ℕ}
use Rattle.opt_system.specs.declared.answers.Verdict.{Verdict}
use Rattle.opt_system.specs.declared.answers.Verdict.TheVariants as verdict
use Rattle.opt_system.specs.declared.answers.Sought.{Sought}
use Rattle.opt_system.specs.declared.answers.Sought.TheVariants as sought
use Rattle.opt_system.specs.Meaning.{Meaning, Judged, applies, faulty, neither, Barren}
use Rattle.gp_memory.specs.Free.{Free}

-- the verdict says what the match is; want of memory says nothing
abbrev pub IsVerdictOf : {Reason : Type 0} → Verdict Reason → Judged Reason → Type 0
IsVerdictOf verdict.Applies j = j ≡ applies
IsVerdictOf (verdict.Faulty r) j = j ≡ faulty r
IsVerdictOf verdict.No j = j ≡ neither
IsVerdictOf verdict.NoMemory j = Free

module _ {State Found Goal Reason : Type 0} where
  -- what is found lies in the share and is what it is said to be; Barren comes only where there is nothing to find
  abbrev pub IsSoughtIn : Meaning State Found Goal Reason → Goal → ℕ → State → Sought Found Reason → Type 0
  IsSoughtIn m goal share at (sought.Applies f) = (m.share goal f ≡ share) × (m.judged goal at f ≡ applies)
  IsSoughtIn m goal share at (sought.Faulty f r) = (m.share goal f ≡ share) × (m.judged goal at f ≡ faulty r)
  IsSoughtIn m goal share at sought.Barren = Barren m goal share at
  IsSoughtIn m goal share at sought.NoMemory = Free

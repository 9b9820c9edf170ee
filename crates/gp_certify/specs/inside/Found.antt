-- What is found of the ends of commands.
use Rattle.std.specs.Prelude.{◌≡◌, ◌⊎◌, ℕ, ◌+◌, ◌≤◌, List, length, Some, slice_get, Contains}
use Rattle.gp_syntax.specs.Run.{Command, Turned}
use Rattle.gp_certify.specs.declared.node.Node.{Node}
use Rattle.gp_certify.specs.Code.{at, IsCode}
use Rattle.gp_certify.specs.declared.end.End.{End}
use Rattle.gp_certify.specs.declared.end.Outcome.TheVariants as outcome
use Rattle.gp_certify.specs.declared.starts.Reached.{Reached}
use Rattle.gp_certify.specs.declared.ways.Way.{Way}
use Rattle.gp_certify.specs.Places.{IsTakenBack}
use Rattle.gp_certify.specs.inside.View.{View}
use Rattle.gp_certify.specs.inside.Grows.{HasJust, Grows, Has}
use Rattle.gp_certify.specs.inside.Memory.{Kept, Knows}
use Rattle.gp_certify.specs.inside.Ways.{EndsSo, ByWay}

-- these are the ends of a command from a place, and there is no other
abbrev pub AreEnds : View → Command → ℕ → List End → Type 0
AreEnds v p i es = HasJust (EndsSo v p i) es

-- of the node of a table, whatever the commands are that it stands for
abbrev pub AreEndsAt : View → List Node → ℕ → ℕ → List End → Type 0
AreEndsAt v code n i es = (cs : List Command) → IsCode v.program code cs → AreEnds v (at cs n) i es

-- what a memory knows is so
abbrev pub IsTrueOf : View → List Node → Kept → Type 0
IsTrueOf v code m = (n i : ℕ) (es : List End) → Knows m n i es → AreEndsAt v code n i es

-- what comes by a way after the end f of a first part that began at i, whatever the commands are
abbrev pub AreByWay : View → List Node → Way → ℕ → End → List End → Type 0
AreByWay v code x i f es = (cs : List Command) → IsCode v.program code cs → HasJust (ByWay v cs x i f) es

-- ---- one turn of a loop, which begins at place i

-- after this end of its body the next turn may begin at m
abbrev pub GoesOn : End → ℕ → Type 0
GoesOn f m = (f.outcome ≡ outcome.Gives) × (m ≡ f.place)

-- after it the loop may end so, where the body began at i
abbrev pub Leaves : View → ℕ → End → End → Type 0
Leaves v i f e =
    (e.outcome ≡ outcome.Gives)
    × (((f.outcome ≡ outcome.Fails) × IsTakenBack v.trace i f.place × (e.place ≡ f.place + 1))
    ⊎ ((f.outcome ≡ outcome.Breaks) × (e.place ≡ f.place)))

-- what the turn at place i, of the body p, adds
pub record HasTurned (v : View) (p : Command) (i : ℕ) (old new : Reached) : Type 0 where
  pub starts : Grows (Has old.starts) (Has new.starts) (λ m. (slice_get v.trace i ≡ Some Turned) × (f : End) × EndsSo v p (i + 1) f × GoesOn f m)
  pub ends : Grows (Contains old.ends.items) (Contains new.ends.items) (λ e. (slice_get v.trace i ≡ Some Turned) × (f : End) × EndsSo v p (i + 1) f × Leaves v (i + 1) f e)

-- What is found of a loop p that began at place i: turns that begin before `floor` were looked at.
pub record IsFound (v : View) (p : Command) (i floor : ℕ) (r : Reached) : Type 0 where
  pub later : (k : ℕ) → Has r.starts k → floor ≤ k
  pub within : (k : ℕ) → Has r.starts k → k ≤ length v.trace
  pub starts : (k : ℕ) (e : End) → Has r.starts k → EndsSo v p k e → EndsSo v p i e
  pub ends : (e : End) → Contains r.ends.items e → EndsSo v p i e
  pub whole : (e : End) → EndsSo v p i e → Contains r.ends.items e ⊎ ((k : ℕ) × Has r.starts k × EndsSo v p k e)

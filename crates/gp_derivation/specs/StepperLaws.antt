-- What holds of steppers: their graphs are what the items before their places lead to, the place tells the trail, and the
-- moves tell the place. And of the texts of scripts.
use Rattle.std.specs.Prelude.{◌≡◌, ◌⊎◌, ℕ, ◌+◌, List, [], ◌∷◌, length, take, All}
use Rattle.gp_syntax.specs.Rule.{Rule}
use Rattle.gp_syntax.specs.Replay.{Replays}
use Rattle.gp_syntax.specs.WellFormed.{IsWellFormed}
use Rattle.gp_journal.specs.Trail.{root_of}
use Rattle.gp_journal.specs.Journal.{items_of}
use Rattle.gp_derivation.specs.declared.line.Line.{Line}
use Rattle.gp_derivation.specs.Stepper.{Stepper, IsStepperOf, IsMoved, Move, forward, back, moved_by}
use Rattle.gp_derivation.specs.Script.{IsScript, BreaksAt}

-- the items before the place replay to the graph
abbrev pub SteppersReplay : Type 0
SteppersReplay = (rules : List Rule) (s : Stepper) → IsStepperOf rules s → Replays rules (root_of s.trail) (take s.place (items_of s.items)) s.trail.graph

-- the same graph, and the same graphs before the live steps
pub record SameTrail (s t : Stepper) : Type 0 where
  pub graph : t.trail.graph ≡ s.trail.graph
  pub before : t.trail.before ≡ s.trail.before

-- by well-formed rules
pub record MovesAreInverse (rules : List Rule) : Type 0 where
  -- steppers of the same items from the same root graph have the same trail at the same place
  pub one_trail : (s t : Stepper) → IsStepperOf rules s → IsMoved rules s t s.place → SameTrail s t
  -- so a move away from a place and then one to it are the identity
  pub there_and_back : (s t u : Stepper) (place : ℕ) → IsStepperOf rules s → IsMoved rules s t place → IsMoved rules t u s.place → SameTrail s u

abbrev pub WellFormedMovesAreInverse : Type 0
WellFormedMovesAreInverse = (rules : List Rule) → All IsWellFormed rules → MovesAreInverse rules

-- ---- moves one after another

-- a move that was not refused: it was made, or there is none further
pub data Moves (rules : List Rule) (s : Stepper) : Move → Stepper → Type 0 where
  goes_on : {t : Stepper} → IsMoved rules s t (s.place + 1) → Moves rules s forward t
  is_at_end : s.place ≡ length s.items → Moves rules s forward s
  goes_back : {t : Stepper} → t.place + 1 ≡ s.place → IsMoved rules s t t.place → Moves rules s back t
  is_at_start : s.place ≡ 0 → Moves rules s back s

-- some, one after another
abbrev pub MovesBy : List Rule → Stepper → List Move → Stepper → Type 0
MovesBy rules s [] u = u ≡ s
MovesBy rules s (m ∷ ms) u = (t : Stepper) × Moves rules s m t × MovesBy rules t ms u

-- the place is that of the moves, and just the items before it replay to the graph
pub record StandsAfter (rules : List Rule) (s : Stepper) (ms : List Move) (u : Stepper) : Type 0 where
  pub place : u.place ≡ moved_by (length s.items) ms s.place
  pub replays : Replays rules (root_of s.trail) (take u.place (items_of s.items)) u.trail.graph

-- after each list of moves
abbrev pub MovesAreCounted : Type 0
MovesAreCounted = (rules : List Rule) (s u : Stepper) (ms : List Move) → IsStepperOf rules s → MovesBy rules s ms u → StandsAfter rules s ms u

-- ---- the texts of scripts

-- A text is that of a script or breaks at a line: of one script at most, at one line at most, and not both.
pub record BreaksOnce (text : List ℕ) : Type 0 where
  pub some : ((s : List Line) × IsScript text s) ⊎ ((n : ℕ) × BreaksAt text n)
  pub told : (s t : List Line) → IsScript text s → IsScript text t → s ≡ t
  pub one : (m n : ℕ) → BreaksAt text m → BreaksAt text n → m ≡ n
  pub none : (s : List Line) (n : ℕ) → IsScript text s → BreaksAt text n → ⊥

abbrev pub ScriptsBreakOnce : Type 0
ScriptsBreakOnce = (text : List ℕ) → BreaksOnce text

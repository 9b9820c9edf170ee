-- Where a command may end, by its parts: one row a command.
use Rattle.std.specs.Prelude.{◌≡◌, ◌⊎◌, ℕ, ◌+◌, List, Some, slice_get}
use Rattle.gp_values.specs.Graph.{Graph}
use Rattle.gp_syntax.specs.Rule.{Found}
use Rattle.gp_syntax.specs.Step.{CallsTo, Blocked}
use Rattle.gp_syntax.specs.Run.{Command, Call, Seq, If, Try, Loop, Or, Skip, Fail, Break, Procedure, Program, Item, Stepped, Turned}
use Rattle.gp_certify.specs.declared.end.Outcome.{Outcome}
use Rattle.gp_certify.specs.declared.end.Outcome.TheVariants as outcome
use Rattle.gp_certify.specs.Places.{IsTakenBack}

-- the item at place i is a step of the set of number c
pub record StepsAt (program : Program) (t : List Item) (graphs : ℕ → Graph) (c i : ℕ) : Type 0 where
  pub set : List ℕ
  pub is_set : slice_get program.sets c ≡ Some set
  pub found : Found
  pub item : slice_get t i ≡ Some (Stepped found)
  pub step : CallsTo program.rules set (graphs i) found (graphs (i + 1))

-- the set of number c is blocked there
pub record BlockedAt (program : Program) (graphs : ℕ → Graph) (c i : ℕ) : Type 0 where
  pub set : List ℕ
  pub is_set : slice_get program.sets c ≡ Some set
  pub blocked : Blocked program.rules set (graphs i)

module _ (program : Program) (t : List Item) (graphs : ℕ → Graph) (Ends : Command → ℕ → ℕ → Outcome → Type 0) where
  -- The command that begins at place i may end so at place j, where `Ends` tells where commands may end. What follows a
  -- condition that is taken back begins behind the item that does. A turn of a loop goes on, or is the last.
  abbrev pub OfParts : Command → ℕ → ℕ → Outcome → Type 0
  OfParts (Call c) i j outcome.Gives = StepsAt program t graphs c i × (j ≡ i + 1)
  OfParts (Call c) i j outcome.Fails = BlockedAt program graphs c i × (j ≡ i)
  OfParts (Call c) i j outcome.Breaks = ⊥
  OfParts (Seq p q) i j outcome.Gives = (m : ℕ) × Ends p i m outcome.Gives × Ends q m j outcome.Gives
  OfParts (Seq p q) i j outcome.Fails = Ends p i j outcome.Fails ⊎ ((m : ℕ) × Ends p i m outcome.Gives × Ends q m j outcome.Fails)
  OfParts (Seq p q) i j outcome.Breaks = Ends p i j outcome.Breaks ⊎ ((m : ℕ) × Ends p i m outcome.Gives × Ends q m j outcome.Breaks)
  OfParts (If k p q) i j x =
      (m : ℕ) × IsTakenBack t i m × ((Ends k i m outcome.Gives × Ends p (m + 1) j x) ⊎ (Ends k i m outcome.Fails × Ends q (m + 1) j x))
  OfParts (Try k p q) i j x =
      (m : ℕ) × ((Ends k i m outcome.Gives × Ends p m j x) ⊎ (IsTakenBack t i m × Ends k i m outcome.Fails × Ends q (m + 1) j x))
  OfParts (Loop p) i j outcome.Gives =
      (slice_get t i ≡ Some Turned)
      × (((m : ℕ) × Ends p (i + 1) m outcome.Gives × Ends (Loop p) m j outcome.Gives)
      ⊎ (((m : ℕ) × Ends p (i + 1) m outcome.Fails × IsTakenBack t (i + 1) m × (j ≡ m + 1)) ⊎ Ends p (i + 1) j outcome.Breaks))
  OfParts (Loop p) i j outcome.Fails = ⊥
  OfParts (Loop p) i j outcome.Breaks = ⊥
  OfParts (Or p q) i j x = Ends p i j x ⊎ Ends q i j x
  OfParts Skip i j outcome.Gives = j ≡ i
  OfParts Skip i j outcome.Fails = ⊥
  OfParts Skip i j outcome.Breaks = ⊥
  OfParts Fail i j outcome.Gives = ⊥
  OfParts Fail i j outcome.Fails = j ≡ i
  OfParts Fail i j outcome.Breaks = ⊥
  OfParts Break i j outcome.Gives = ⊥
  OfParts Break i j outcome.Fails = ⊥
  OfParts Break i j outcome.Breaks = j ≡ i
  OfParts (Procedure k) i j x = (body : Command) × (slice_get program.procedures k ≡ Some body) × Ends body i j x

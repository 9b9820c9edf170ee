-- A loop over a call, turn by turn.
use Rattle.std.specs.Prelude.{◌≡◌, ℕ, ◌+◌}
use Rattle.gp_run.specs.declared.engine.Repeated.{Repeated}
use Rattle.gp_run.specs.declared.engine.Turned.TheVariants as turned
use Rattle.gp_run.specs.Engine.{View, HasTurned, HasRepeated}
use Rattle.gp_system.specs.declared.session.AfterTurn.{AfterTurn}
use Rattle.gp_system.specs.declared.session.AfterTurn.TheVariants.{On, Dear, Came}

-- what the loop comes to from the later moment, it comes to from the earlier one
pub record GoesOn (c : ℕ) (v w : View) : Type 0 where
  pub onward : (r : Repeated) (x : View) → HasRepeated c r w x → HasRepeated c r v x
  pub program : w.program ≡ v.program

-- the same, up to a turn that was begun
pub record IsInTurn (c : ℕ) (v w : View) : Type 0 where
  pub before : View
  pub goes_on : GoesOn c v before
  pub made : HasTurned turned.Made before w

abbrev pub HasGone : ℕ → AfterTurn → View → View → Type 0
HasGone c On v w = GoesOn c v w
HasGone c Dear v w = IsInTurn c v w
HasGone c (Came r) v w = HasRepeated c r v w

-- it came to something, and no search of the turn was given up
abbrev pub HasCome : AfterTurn → Type 0
HasCome On = ⊥
HasCome Dear = ⊥
HasCome (Came r) = Unit {0}

abbrev pub IsWhole : AfterTurn → Type 0
IsWhole On = Unit {0}
IsWhole Dear = ⊥
IsWhole (Came r) = Unit {0}

-- how long it may still go on, where so many items are left
abbrev pub still : AfterTurn → ℕ → ℕ
still On left = left + 1
still Dear left = left + 1
still (Came r) left = 0

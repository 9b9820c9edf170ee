-- A trail at a place of a run's items, with numbers of items beside it.
use Rattle.std.specs.Prelude.{◌≡◌, ℕ, zero, suc, ◌-◌, List, [], ◌∷◌, ◌++◌, length, take, drop, Option, Some, None, slice_get}
use Rattle.gp_syntax.specs.Rule.{Rule, Found}
use Rattle.gp_syntax.specs.Run as meant
use Rattle.gp_syntax.specs.Run.{Stepped, Turned, Back}
use Rattle.gp_syntax.specs.declared.found.Item.{Item}
use Rattle.gp_journal.specs.Trail.{Trail}
use Rattle.gp_journal.specs.Leads.{Goes}
use Rattle.gp_journal.specs.Journal.{items_of}
use Rattle.gp_derivation.specs.declared.standing.Standing.{Standing}
use Rattle.gp_derivation.specs.Stepper.{Stepper, IsStepperOf}

-- the numbers of the items whose steps are live, in order, and of those whose steps were taken back, the last ones at the
-- end
pub record Stacks : Type 0 where
  pub live : List ℕ
  pub taken : List ℕ

-- the last k live ones are taken back
abbrev pub taken_back : ℕ → Stacks → Stacks
taken_back k s = record { live = take (length s.live - k) s.live; taken = s.taken ++ drop (length s.live - k) s.live }

-- the last k that were taken back are live again
abbrev pub made_again : ℕ → Stacks → Stacks
made_again k s = record { live = s.live ++ drop (length s.taken - k) s.taken; taken = take (length s.taken - k) s.taken }

-- after the item of this number
abbrev pub stacks_after : ℕ → Option meant.Item → Stacks → Stacks
stacks_after n None s = s
stacks_after n (Some (Stepped m)) s = record { live = s.live ++ n ∷ []; taken = s.taken }
stacks_after n (Some Turned) s = s
stacks_after n (Some (Back k)) s = taken_back k s

-- at a place of the items
abbrev pub stacks_at : List meant.Item → ℕ → Stacks
stacks_at is zero = record { live = []; taken = [] }
stacks_at is (suc n) = stacks_after n (slice_get is n) (stacks_at is n)

abbrev pub stacks_of : Standing → Stacks
stacks_of s = record { live = s.live.items; taken = s.taken.items }

-- the item leads from the one trail to the other, and to no other
pub record GoesOnly (rules : List Rule) (i : meant.Item) (t u : Trail) : Type 0 where
  pub goes : Goes rules i t u
  pub only : (v : Trail) → Goes rules i t v → v ≡ u

-- the items of these numbers are steps that lead from the one trail to the other, one after another
abbrev pub StepsOn : List Rule → List meant.Item → List ℕ → Trail → Trail → Type 0
StepsOn rules is [] t u = u ≡ t
StepsOn rules is (n ∷ ns) t u = (m : Found) × (v : Trail) × (slice_get is n ≡ Some (Stepped m)) × Goes rules (Stepped m) t v × StepsOn rules is ns v u

-- what contracts see of it
abbrev pub shown_at : List Item → ℕ → Standing → Stepper
shown_at is n s = record { items = is; place = n; trail = s.trail }

-- It stands at a place of the items.
pub record Stands (rules : List Rule) (is : List Item) (n : ℕ) (s : Standing) : Type 0 where
  pub of_rules : IsStepperOf rules (shown_at is n s)
  pub stacks : stacks_of s ≡ stacks_at (items_of is) n

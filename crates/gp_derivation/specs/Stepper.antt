-- Through the items of a journal, forward and back.
use Rattle.std.specs.Prelude.{◌≡◌, ℕ, ◌+◌, ◌≤◌, zero, suc, min, List, [], ◌∷◌, length, take, drop}
use Rattle.gp_syntax.specs.Rule.{Rule}
use Rattle.gp_syntax.specs.declared.found.Item.{Item}
use Rattle.gp_journal.specs.Trail.{Trail, root_of, rooted}
use Rattle.gp_journal.specs.Leads.{Leads}
use Rattle.gp_journal.specs.Journal.{Journal, items_of}

-- the items of a run, and a trail that stands at a place of them: before the item of that number, or behind the last
pub record Stepper : Type 0 where
  pub items : List Item
  pub place : ℕ
  pub trail : Trail

-- before the first item, at a trail
abbrev pub before_first : Trail → List Item → Stepper
before_first t items = record { items = items; place = 0; trail = t }

-- a journal's stepper, with all live steps taken back
abbrev pub at_start : Journal → Stepper
at_start j = before_first (rooted j.trail) j.items

-- The stepper is of a list of rules: by these the items before its place lead from the root graph to its trail, and those
-- behind it on from there.
pub record IsStepperOf (rules : List Rule) (s : Stepper) : Type 0 where
  pub within : s.place ≤ length s.items
  pub before : Leads rules (take s.place (items_of s.items)) (rooted s.trail) s.trail
  pub end : Trail
  pub behind : Leads rules (drop s.place (items_of s.items)) s.trail end

-- the same items from the same root graph, at this place
pub record IsMoved (rules : List Rule) (s t : Stepper) (place : ℕ) : Type 0 where
  pub items : t.items ≡ s.items
  pub root : root_of t.trail ≡ root_of s.trail
  pub place_is : t.place ≡ place
  pub of_rules : IsStepperOf rules t

-- ---- the place after a list of moves

pub data Move : Type 0 where
  forward : Move
  back : Move

-- one up at a move forward, at most the number of items, and one down at a move back, at least 0
abbrev pub moved : ℕ → Move → ℕ → ℕ
moved count forward n = min (n + 1) count
moved count back zero = zero
moved count back (suc n) = n

abbrev pub moved_by : ℕ → List Move → ℕ → ℕ
moved_by count [] n = n
moved_by count (m ∷ ms) n = moved_by count ms (moved count m n)

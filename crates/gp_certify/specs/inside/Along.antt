-- A trail that goes along a trace.
use Rattle.std.specs.Prelude.{◌≡◌, ℕ, ◌+◌, ◌<◌, ◌≤◌, List, [], ◌∷◌, length, take, Some, slice_get}
use Rattle.gp_values.specs.Graph.{Graph}
use Rattle.gp_syntax.specs.Rule.{Rule}
use Rattle.gp_syntax.specs.Run.{Item, Stepped, Turned, Back}
use Rattle.gp_syntax.specs.Replay.{Replays}
use Rattle.gp_journal.specs.Trail.{Trail, fresh, advanced, back_by}
use Rattle.gp_journal.specs.Leads.{AppliesBy, Goes}
use Rattle.gp_certify.specs.declared.along.Standing.{Standing}

-- the item goes from the trail: a match that applies, or no more steps to take back than are live
abbrev pub MayGo : List Rule → Item → Trail → Type 0
MayGo rules (Stepped m) t = AppliesBy rules t.graph m
MayGo rules Turned t = Unit {0}
MayGo rules (Back k) t = k ≤ length t.before

-- what it makes of the trail
abbrev pub after_item : List Rule → Item → Trail → Trail
after_item rules (Stepped m) t = advanced rules t m
after_item rules Turned t = t
after_item rules (Back k) t = back_by k t

abbrev pub after_items : List Rule → List Item → Trail → Trail
after_items rules [] t = t
after_items rules (i ∷ is) t = after_items rules is (after_item rules i t)

-- ---- at a place of a trace, from a host

abbrev pub trail_at : List Rule → Graph → List Item → ℕ → Trail
trail_at rules host t n = after_items rules (take n t) (fresh host)

-- how many steps are live there
abbrev pub depth_at : List Rule → Graph → List Item → ℕ → ℕ
depth_at rules host t n = length (trail_at rules host t n).before

-- each item before place n goes
abbrev pub AllGo : List Rule → Graph → List Item → ℕ → Type 0
AllGo rules host t n = (k : ℕ) (i : Item) → k < n → slice_get t k ≡ Some i → Goes rules i (trail_at rules host t k) (trail_at rules host t (k + 1))

-- how many steps are live at each place up to place n
pub record AreDepths (rules : List Rule) (host : Graph) (t : List Item) (n : ℕ) (depths : List ℕ) : Type 0 where
  pub count : length depths ≡ n + 1
  pub each : (k : ℕ) → k ≤ n → slice_get depths k ≡ Some (depth_at rules host t k)

-- the trail is that of its place
pub record Stands (rules : List Rule) (host : Graph) (t : List Item) (s : Standing) : Type 0 where
  pub within : s.place ≤ length t
  pub trail : s.trail ≡ trail_at rules host t s.place

-- The items before place n go, these are the depths, and the trail stands there.
pub record IsWalked (rules : List Rule) (host : Graph) (t : List Item) (n : ℕ) (depths : List ℕ) (at : Trail) : Type 0 where
  pub all_go : AllGo rules host t n
  pub are_depths : AreDepths rules host t n depths
  pub trail : at ≡ trail_at rules host t n

-- some beginning of the trace replays to no graph
abbrev pub BreaksOff : List Rule → Graph → List Item → Type 0
BreaksOff rules host t = (n : ℕ) × ((h : Graph) → Replays rules host (take n t) h → ⊥)

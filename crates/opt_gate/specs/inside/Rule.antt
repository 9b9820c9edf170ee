-- The rule of the gate's table. Word 0 is the ticket that is served, word 1 the next ticket, and slot 0 is for the core.
-- Tickets are counted without end here; the words have them modulo 2 ^ 64.
use Rattle.std.specs.Prelude.{◌≡◌, ℕ, ◌+◌, ◌%◌, ◌^◌, ◌<◌, ◌≤◌, ◌⊎◌, List, [], ◌∷◌, Bool, true, false, Option, Some, None, length}
use mathlib.Core.Option as core
use lib.ListN.{get_elem?}
use Rattle.atomic_table.specs.Table.{State}
use Rattle.opt_core.specs.declared.event.Ending.{Ending}
use Rattle.opt_core.specs.declared.event.Ending.TheVariants as ending
use Rattle.opt_gate.specs.declared.view.View.{View}
use Rattle.opt_gate.specs.Lists.{StartsWith, AllAt, times, once_below}
use Rattle.opt_gate.specs.inside.Totals.{total}

abbrev pub has : Option ℕ → ℕ
has None = 0
has (Some t) = 1

module _ {K F R : Type 0} where
  -- a view of a pass that was not just joined
  abbrev pub view : Option K → ℕ → List F → Option (Ending R) → List (ℕ × F) → ℕ → Option ℕ → Bool → View K F R
  view key room knows x own stops ticket served =
      record { key = key; room = room; knows = knows; ending = x; own = own; stops = stops; ticket = ticket; served = served; other = []; other_ending = None }

  -- how many tickets a view has
  abbrev pub has_ticket : View K F R → ℕ
  has_ticket v = has v.ticket

  -- the view with this number
  abbrev pub At : List (View K F R) → ℕ → View K F R → Type 0
  At views i v = get_elem? views i ≡ core.some v

  -- tickets and rooms
  pub record Turns (served drawn passes : ℕ) (words : List ℕ) (views : List (View K F R)) : Type 0 where
    pub words_are : words ≡ served % 2 ^ 64 ∷ drawn % 2 ^ 64 ∷ []
    -- the rooms add up to the number of passes
    pub few : passes < 2 ^ 64
    pub rooms : total (λ v. v.room) views ≡ passes
    -- who has a ticket waits or is served
    pub queue : drawn ≡ served + total has_ticket views
    pub roomy : (i : ℕ) (v : View K F R) → At views i v → has_ticket v ≤ v.room
    pub in_turn : (i t : ℕ) (v : View K F R) → At views i v → v.ticket ≡ Some t → (served ≤ t) × (t < drawn)
    -- tickets differ
    pub apart : (i j t : ℕ) (v w : View K F R) → At views i v → At views j w → v.ticket ≡ Some t → w.ticket ≡ Some t → i ≡ j
    pub is_served : (i : ℕ) (v : View K F R) → At views i v → v.served ≡ true → v.ticket ≡ Some served

  -- what a view knows, where `log` are all entries and `end` is the ending
  pub record Knows (key : K) (log : List F) (end : Option (Ending R)) (v : View K F R) : Type 0 where
    pub keyed : (v.key ≡ Some key) ⊎ (v.room ≡ 0)
    -- it knows the first entries, and with the ending all of them
    pub known : StartsWith log v.knows
    pub ended : (x : Ending R) → v.ending ≡ Some x → (end ≡ Some x) × (v.knows ≡ log)
    -- its own commits are at their places
    pub own : AllAt v.knows v.own
    -- a view without room has none
    pub idle : v.room ≡ 0 → (v.own ≡ []) × (v.stops ≡ 0)
    -- what the other pass of a join knew
    pub other : StartsWith v.knows v.other
    pub other_ended : (x : Ending R) → v.other_ending ≡ Some x → (v.ending ≡ Some x) × (v.other ≡ v.knows)

  -- each entry is some view's own, once, and Stopped was asked for
  pub record Tally (log : List F) (end : Option (Ending R)) (views : List (View K F R)) : Type 0 where
    pub once : (place : ℕ) → total (λ v. times place v.own) views ≡ once_below place (length log)
    pub stopped : end ≡ Some ending.Stopped → 0 < total (λ v. v.stops) views

  module _ {C : Type 0} (entries : C → List F) (ended : C → Option (Ending R)) (Same : K → C → Type 0) (passes : K → ℕ) where
    -- the core is in its slot and no view is served, or a view is served, which knows all
    abbrev pub Placed : K → List F → Option (Ending R) → List (core.Option (Option C)) → List (View K F R) → Type 0
    Placed key log end homes views =
        ((c : C) × (get_elem? homes 0 ≡ core.some (core.some (Some c))) × Same key c × (entries c ≡ log) × (ended c ≡ end) × ((i : ℕ) (v : View K F R) → At views i v → v.served ≡ false))
        ⊎ ((i : ℕ) × (v : View K F R) × At views i v × (v.served ≡ true) × (v.knows ≡ log) × (v.ending ≡ end))

    -- what holds between any two steps
    pub record Ruled (key : K) (s : State (Option C) (View K F R)) : Type 0 where
      pub served : ℕ
      pub drawn : ℕ
      pub log : List F
      pub end : Option (Ending R)
      pub turns : Turns served drawn (passes key) s.words s.views
      pub placed : Placed key log end s.homes s.views
      pub knowing : (i : ℕ) (v : View K F R) → At s.views i v → Knows key log end v
      pub tally : Tally log end s.views

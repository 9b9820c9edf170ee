-- What each step does to a view, and what it shows.
use Rattle.std.specs.Prelude.{◌≡◌, ◌≢◌, ℕ, ◌+◌, ◌-◌, ◌%◌, ◌^◌, ◌<◌, ◌≤◌, List, [], ◌∷◌, ◌++◌, true, false, Option, Some, None, length, drop}
use Rattle.atomic_table.specs.Table.{Me, Step}
use Rattle.opt_core.specs.declared.event.Ending.{Ending}
use Rattle.opt_core.specs.declared.event.Ending.TheVariants as ending
use Rattle.opt_gate.specs.declared.view.View.{View}
use Rattle.opt_gate.specs.Lists.{StartsWith, AllAt, times, once_below, by_length, longer, ending_of_both}
use Rattle.opt_gate.specs.inside.Totals.{placed_from, shorter}
use Rattle.opt_gate.specs.inside.Rule.{view}

module _ {K F R : Type 0} where
  -- between turns
  abbrev pub resting : View K F R → View K F R
  resting v = view v.key v.room v.knows v.ending v.own v.stops None false

  -- with a ticket
  abbrev pub waiting : View K F R → ℕ → View K F R
  waiting v t = view v.key v.room v.knows v.ending v.own v.stops (Some t) false

  -- a split: the old view has one room less, and the new one has it
  abbrev pub split_left : View K F R → View K F R
  split_left v = view v.key (v.room - 1) v.knows v.ending v.own v.stops None false

  abbrev pub split_right : View K F R → View K F R
  split_right v = view v.key 1 v.knows v.ending [] 0 None false

  -- a join
  abbrev pub joined : View K F R → View K F R → View K F R
  joined v w = record {
    key = v.key;
    room = v.room + w.room;
    knows = longer v.knows w.knows;
    ending = ending_of_both v.knows w.knows v.ending w.ending;
    own = v.own ++ w.own;
    stops = v.stops + w.stops;
    ticket = None;
    served = false;
    other = shorter v.knows w.knows;
    other_ending = by_length v.knows w.knows w.ending v.ending;
  }

  -- what is left of the pass that was joined into another one
  abbrev pub spent : View K F R
  spent = view None 0 [] None [] 0 None false

  module _ {C : Type 0} where
    abbrev pub Drew : Step (Option C) → Me (Option C) (View K F R) → ℕ → Me (Option C) (View K F R) → Type 0
    Drew st m r n = (t : ℕ) × (t % 2 ^ 64 ≡ r) × (n ≡ (waiting m.0 t, m.1))

  module _ (passes : K → ℕ) where
    -- what a step shows of a view that has room
    pub record Shows (v : View K F R) : Type 0 where
      pub own : AllAt v.knows v.own
      pub once : (place : ℕ) → times place v.own ≤ 1
      pub other : StartsWith v.knows v.other
      pub other_ended : (x : Ending R) → v.other_ending ≡ Some x → (v.ending ≡ Some x) × (v.other ≡ v.knows)
      pub narrow : v.room < 2 ^ 64
      -- with all the room there is no other view: it knows all, each entry is its own, and it asked for Stopped
      pub all_own : (k : K) → v.key ≡ Some k → v.room ≡ passes k → (place : ℕ) → times place v.own ≡ once_below place (length v.knows)
      pub all_stops : (k : K) → v.key ≡ Some k → v.room ≡ passes k → v.ending ≡ Some ending.Stopped → 0 < v.stops

    module _ {C : Type 0} where
      abbrev pub Shown : Step (Option C) → Me (Option C) (View K F R) → ℕ → Me (Option C) (View K F R) → Type 0
      Shown st m r n = (n ≡ (resting m.0, m.1)) × Shows m.0

  module _ {C : Type 0} (entries : C → List F) (ended : C → Option (Ending R)) where
    -- the turn has come, and the core is c
    abbrev pub serving : View K F R → C → View K F R
    serving v c = view v.key v.room (entries c) (ended c) v.own v.stops v.ticket true

    -- after a turn that left the core c: the entries past those that were there are its own
    abbrev pub passed : ℕ → View K F R → C → View K F R
    passed stops v c = view v.key v.room (entries c) (ended c) (v.own ++ placed_from (length v.knows) (drop (length v.knows) (entries c))) (v.stops + stops) None false

    module _ (Same : K → C → Type 0) (passes : K → ℕ) where
      -- what the pass learns when its turn comes
      pub record Learns (v : View K F R) (c : C) : Type 0 where
        pub same : (k : K) → v.key ≡ Some k → Same k c
        pub further : StartsWith (entries c) v.knows
        pub stands : (x : Ending R) → v.ending ≡ Some x → (ended c ≡ Some x) × (entries c ≡ v.knows)
        pub shows : Shows passes (serving v c)

      abbrev pub Takes : Me (Option C) (View K F R) → Me (Option C) (View K F R) → Type 0
      Takes m n = (c : C) × (n ≡ (serving m.0 c, (0, Some c) ∷ m.1)) × Learns m.0 c

      abbrev pub Watched : Step (Option C) → Me (Option C) (View K F R) → ℕ → Me (Option C) (View K F R) → Type 0
      Watched st m r n = (t : ℕ) → m.0.ticket ≡ Some t → (t % 2 ^ 64 ≡ r → Takes m n) × (t % 2 ^ 64 ≢ r → n ≡ m)

      abbrev pub Passed : ℕ → Step (Option C) → Me (Option C) (View K F R) → ℕ → Me (Option C) (View K F R) → Type 0
      Passed stops st m r n = (c : C) → m.1 ≡ (0, Some c) ∷ [] → (n ≡ (passed stops m.0 c, [])) × Shows passes (passed stops m.0 c)

      -- the core is out with the view, whose ticket was t
      pub record Took (v : View K F R) (c : C) (n : Me (Option C) (View K F R)) : Type 0 where
        pub ticket : ℕ
        pub me : n ≡ (serving (waiting v ticket) c, (0, None) ∷ [])
        pub learns : Learns v c

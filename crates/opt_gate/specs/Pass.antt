-- What contracts see of a gate and of a pass.
use Rattle.std.specs.Prelude.{◌≡◌, ℕ, ◌+◌, ◌-◌, ◌<◌, ◌≤◌, List, [], ◌++◌, Option, Some, None, length}
use Rattle.atomic_table.specs.Seated.{TableId}
use Rattle.opt_core.specs.Core.{Core}
use Rattle.opt_core.specs.declared.event.Ending.{Ending}
use Rattle.opt_core.specs.declared.event.Ending.TheVariants as ending
use Rattle.opt_gate.specs.declared.key.Key.{Key}
use Rattle.opt_gate.specs.Lists.{AllAt, times, once_below, longer, ending_of_both}

pub record GateView (K : Type 0) : Type 0 where
  -- which gate it is
  pub table : TableId
  -- the core that it was started with, and the number of passes
  pub key : K

pub record PassView (K F R : Type 0) : Type 0 where
  -- the gate that it is of
  pub table : TableId
  pub key : Option K
  pub number : ℕ
  -- the number of entries that were handed to it
  pub told : ℕ
  -- the number of passes that it may become, itself counted
  pub room : ℕ
  -- the entries and the ending that it knows
  pub knows : List F
  pub ending : Option (Ending R)
  -- its own commits, with their places
  pub own : List (ℕ × F)
  -- how many times it asked to stop
  pub stops : ℕ

module _ {System State Found Goal Reason : Type 0} where
  -- the core that a gate was started with
  abbrev pub start_of : GateView (Key (Core System State Found Goal Reason)) → Core System State Found Goal Reason
  start_of gate = gate.key.core.value

module _ {K F R : Type 0} where
  abbrev pub IsPassOf : GateView K → PassView K F R → Type 0
  IsPassOf gate pass = (pass.table ≡ gate.table) × (pass.key ≡ Some gate.key)

  -- the pass that a gate is started with
  abbrev pub first_pass : GateView K → ℕ → PassView K F R
  first_pass gate passes = record { table = gate.table; key = Some gate.key; number = 0; told = 0; room = passes; knows = []; ending = None; own = []; stops = 0 }

  -- a split: the old pass has one room less, and the new one has it
  abbrev pub pass_after_split : PassView K F R → PassView K F R
  pass_after_split p = record { table = p.table; key = p.key; number = p.number; told = p.told; room = p.room - 1; knows = p.knows; ending = p.ending; own = p.own; stops = p.stops }

  abbrev pub new_pass : PassView K F R → ℕ → PassView K F R
  new_pass p number = record { table = p.table; key = p.key; number = number; told = p.told; room = 1; knows = p.knows; ending = p.ending; own = []; stops = 0 }

  -- a join: the longer list, an ending of either, the commits of both, and the sums
  abbrev pub joined_pass : PassView K F R → PassView K F R → PassView K F R
  joined_pass p q = record {
    table = p.table;
    key = p.key;
    number = p.number;
    told = p.told;
    room = p.room + q.room;
    knows = longer p.knows q.knows;
    ending = ending_of_both p.knows q.knows p.ending q.ending;
    own = p.own ++ q.own;
    stops = p.stops + q.stops;
  }

  -- the own commits of a pass: each is at its place in what the pass knows, and no place comes twice
  pub record OwnsRightly (p : PassView K F R) : Type 0 where
    pub at_places : AllAt p.knows p.own
    pub once : (place : ℕ) → times place p.own ≤ 1

module _ {C F R : Type 0} where
  -- what holds of a pass with all the room of its gate: its own commits name the place of each entry once, and it
  -- knows the ending Stopped only where it asked for it
  pub record IsWhole (key : Key C) (p : PassView (Key C) F R) : Type 0 where
    pub each_once : p.room ≡ key.passes → (place : ℕ) → times place p.own ≡ once_below place (length p.knows)
    pub stopped : p.room ≡ key.passes → p.ending ≡ Some ending.Stopped → 0 < p.stops

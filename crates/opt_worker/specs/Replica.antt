-- A replica, and a pass whose worker has done.
use Rattle.std.specs.Prelude.{◌≡◌, ℕ, ◌+◌, ◌≤◌, List, [], ◌∷◌, Some, length, take}
use Rattle.opt_system.specs.Meaning.{Meaning}
use Rattle.opt_core.specs.declared.event.Ending.{Ending}
use Rattle.opt_core.specs.Core.{Core, reached}
use Rattle.opt_gate.specs.declared.key.Key.{Key}
use Rattle.opt_gate.specs.Lists.{StartsWith}
use Rattle.opt_gate.specs.Pass.{PassView, OwnsRightly, IsWhole}
use Rattle.opt_gate.specs.Turn.{IsTrueEnding, entries_told}

module _ {State Found Goal Reason : Type 0} (m : Meaning State Found Goal Reason) where
  -- the state is the base after the first `count` of these entries, and its depth tells how many these are
  pub record IsReplica (base : State) (entries : List Found) (at : State) : Type 0 where
    pub count : ℕ
    pub few : count ≤ length entries
    pub is : at ≡ reached m base (take count entries)
    pub deep : m.depth at ≡ m.depth base + count

module _ {K F R : Type 0} where
  -- the pass p after turns of its worker: it is the same pass, and knows, owns and stopped no less
  pub record IsLater (p q : PassView K F R) : Type 0 where
    pub table : q.table ≡ p.table
    pub key : q.key ≡ p.key
    pub number : q.number ≡ p.number
    pub room : q.room ≡ p.room
    pub knows : StartsWith q.knows p.knows
    pub own : StartsWith q.own p.own
    pub stops : p.stops ≤ q.stops

module _ {System State Found Goal Reason : Type 0} (m : Meaning State Found Goal Reason) where
  -- the pass knows how the goal ended, which is true of what it knows; its own commits are at their places; and with all
  -- the room of the gate of this key each entry is its own once, and Stopped was asked for
  pub record IsDone (key : Key (Core System State Found Goal Reason)) (p : PassView (Key (Core System State Found Goal Reason)) Found Reason) : Type 0 where
    pub ended : (x : Ending Reason) × (p.ending ≡ Some x) × IsTrueEnding m key.core.value p.knows x
    pub own : OwnsRightly p
    pub whole : IsWhole key p

  -- What the worker whose pass has this number made of a replica: it was where the pass was told that the core is, and
  -- follows what the same pass knows after the last of its turns.
  pub record IsWorked (core : Core System State Found Goal Reason) (place : ℕ) (before after : State) : Type 0 where
    pub pass : PassView (Key (Core System State Found Goal Reason)) Found Reason
    pub last : PassView (Key (Core System State Found Goal Reason)) Found Reason
    pub number : pass.number ≡ place
    pub stood : before ≡ reached m core.base (entries_told pass)
    pub later : IsLater pass last
    pub follows : IsReplica m core.base last.knows after

  -- so each of these, from this place on
  abbrev pub AllWorked : Core System State Found Goal Reason → ℕ → List State → List State → Type 0
  AllWorked core place [] [] = Unit {0}
  AllWorked core place [] (b ∷ bs) = ⊥
  AllWorked core place (a ∷ xs) [] = ⊥
  AllWorked core place (a ∷ xs) (b ∷ bs) = IsWorked core place a b × AllWorked core (place + 1) xs bs

  -- The replicas come back in their order, each from the worker whose pass has its place for a number; or nobody worked, and
  -- they come back as they were.
  pub data ComeBack (core : Core System State Found Goal Reason) (given back : List State) : Type 0 where
    unworked : back ≡ given → ComeBack core given back
    worked : AllWorked core 0 given back → ComeBack core given back

-- The events by which a crew pursued a goal.
use Rattle.std.specs.Prelude.{◌≡◌, ◌⊎◌, List, [], ◌∷◌, Some}
use Rattle.opt_system.specs.Meaning.{Meaning}
use Rattle.opt_core.specs.declared.event.Ending.TheVariants as ending
use Rattle.opt_core.specs.declared.event.Event.TheVariants as event
use Rattle.opt_core.specs.Core.{Core}
use Rattle.opt_core.specs.Runs.{Answered, Run}

module _ {System State Found Goal Reason : Type 0} where
  -- one of the events is Stop
  abbrev pub HasStop : List (Answered System State Found Goal Reason) → Type 0
  HasStop [] = ⊥
  HasStop (t ∷ ts) = (t.event ≡ event.Stop) ⊎ HasStop ts

  -- some events lead from the core that was handed in to the one that comes back; one of them is Stop where that ended so
  pub record CameByEvents (m : Meaning State Found Goal Reason) (c d : Core System State Found Goal Reason) : Type 0 where
    pub events : List (Answered System State Found Goal Reason)
    pub run : Run m c events d
    pub stopped : d.ending ≡ Some ending.Stopped → HasStop events

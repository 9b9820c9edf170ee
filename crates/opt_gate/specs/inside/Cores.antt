-- The rule's words at cores.
use Rattle.std.specs.Prelude.{ℕ, List, [], Option, Some, None, false}
use Rattle.opt_system.specs.Meaning.{Meaning}
use Rattle.opt_core.specs.Core.{Core}
use Rattle.opt_core.specs.Runs.{SameStart, EventsLead}
use Rattle.opt_core.specs.declared.event.Ending.{Ending}
use Rattle.opt_gate.specs.declared.key.Key.{Key}
use Rattle.opt_gate.specs.declared.view.View.{View}
use Rattle.opt_gate.specs.inside.Rule.{view}

module _ {System State Found Goal Reason : Type 0} where
  abbrev pub entries_of : Core System State Found Goal Reason → List Found
  entries_of c = c.entries

  abbrev pub ended_of : Core System State Found Goal Reason → Option (Ending Reason)
  ended_of c = c.ending

  -- the core is of the system, base, goal and items given that the gate was made with, and events led to it
  abbrev pub IsOf : Meaning State Found Goal Reason → Core System State Found Goal Reason → Core System State Found Goal Reason → Type 0
  IsOf m start c = SameStart start c × EventsLead m start c

  abbrev pub IsOfKey : (System → Meaning State Found Goal Reason) → Key (Core System State Found Goal Reason) → Core System State Found Goal Reason → Type 0
  IsOfKey means key c = IsOf (means key.core.value.system) key.core.value c

  abbrev pub passes_of : Key (Core System State Found Goal Reason) → ℕ
  passes_of key = key.passes

  -- the view of the first pass
  abbrev pub first_view : Key (Core System State Found Goal Reason) → View (Key (Core System State Found Goal Reason)) Found Reason
  first_view key = view (Some key) key.passes [] None [] 0 None false

  abbrev pub goal_of : Core System State Found Goal Reason → Goal
  goal_of c = c.goal

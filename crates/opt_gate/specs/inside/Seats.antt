-- One turn of a seat: what lies between the steps on the table and the calls of a pass.
use Rattle.std.specs.Prelude.{◌≡◌, ℕ, ◌+◌, [], Bool, true, false, Option, Some, length}
use Rattle.atomic_table.specs.Table.{Me}
use Rattle.opt_system.specs.Meaning.{Meaning}
use Rattle.opt_core.specs.declared.event.Ending.{Ending}
use Rattle.opt_core.specs.declared.event.Event.{Event}
use Rattle.opt_core.specs.declared.event.Event.TheVariants as event
use Rattle.opt_core.specs.declared.event.Reply.{Reply}
use Rattle.opt_core.specs.declared.event.Reply.TheVariants as reply
use Rattle.opt_core.specs.Core.{Core, Legal}
use Rattle.opt_core.specs.Steps.{Answers, MayCome}
use Rattle.opt_core.specs.Runs.{SameStart}
use Rattle.opt_gate.specs.declared.key.Key.{Key}
use Rattle.opt_gate.specs.declared.view.View.{View}
use Rattle.opt_gate.specs.Lists.{StartsWith}
use Rattle.opt_gate.specs.inside.Cores.{entries_of, ended_of, IsOf, passes_of}
use Rattle.opt_gate.specs.inside.Plays.{serving, passed, Shows}
use Rattle.opt_gate.specs.Turn.{stops_of}

module _ {Found : Type 0} where
  abbrev pub is_stop : Event Found → Bool
  is_stop (event.Look told from) = false
  is_stop (event.Offer told f) = false
  is_stop (event.Batch told fs) = false
  is_stop (event.Fault told f) = false
  is_stop (event.Quiet told share) = false
  is_stop event.Stop = true

module _ {Found Reason : Type 0} where
  -- the number that was told, and the entries of the News
  abbrev pub told_and_handed : ℕ → Reply Found Reason → ℕ
  told_and_handed told (reply.News es task) = told + length es
  told_and_handed told r = told

module _ {System State Found Goal Reason : Type 0} (m : Meaning State Found Goal Reason) where
  -- the event may come to any core of the gate's start that begins with what the view knows
  abbrev pub MayComeTo : View (Key (Core System State Found Goal Reason)) Found Reason → Event Found → Type 0
  MayComeTo v e = (k : Key (Core System State Found Goal Reason)) (c : Core System State Found Goal Reason) → v.key ≡ Some k → SameStart k.core.value c → StartsWith c.entries v.knows → MayCome m c e

  -- one turn of a seat
  pub record Acts (v : View (Key (Core System State Found Goal Reason)) Found Reason) (e : Event Found) (r : Reply Found Reason)
      (n : Me (Option (Core System State Found Goal Reason)) (View (Key (Core System State Found Goal Reason)) Found Reason)) : Type 0 where
    pub before : Core System State Found Goal Reason
    pub after : Core System State Found Goal Reason
    pub of_key : (k : Key (Core System State Found Goal Reason)) → v.key ≡ Some k → IsOf m k.core.value before
    pub may_come : MayCome m before e
    pub answers : Answers m before e r after
    pub legal : Legal m before
    pub legal_after : Legal m after
    pub knew : StartsWith before.entries v.knows
    pub stood : (x : Ending Reason) → v.ending ≡ Some x → (before.ending ≡ Some x) × (before.entries ≡ v.knows)
    pub me : n ≡ (passed entries_of ended_of (stops_of e) (serving entries_of ended_of v before) after, [])
    pub shows : Shows passes_of (passed entries_of ended_of (stops_of e) (serving entries_of ended_of v before) after)

-- One turn of a pass.
use Rattle.std.specs.Prelude.{◌≡◌, ℕ, ◌+◌, ◌<◌, List, [], ◌++◌, Option, Some, length, take}
use Rattle.opt_system.specs.declared.answers.Mode.TheVariants.{Saturate}
use Rattle.opt_system.specs.Meaning.{Meaning, applies, faulty, Barren, AllIndependent}
use Rattle.opt_core.specs.declared.event.Ending.{Ending}
use Rattle.opt_core.specs.declared.event.Event.{Event}
use Rattle.opt_core.specs.declared.event.Event.TheVariants as event
use Rattle.opt_core.specs.declared.event.Reply.{Reply}
use Rattle.opt_core.specs.declared.event.Reply.TheVariants as reply
use Rattle.opt_core.specs.Core.{Core, Legal, reached}
use Rattle.opt_core.specs.Steps.{Answers, MayCome}
use Rattle.opt_core.specs.Runs.{SameStart, EventsLead, commits_of}
use Rattle.opt_gate.specs.declared.ask.Ask.{Ask}
use Rattle.opt_gate.specs.declared.ask.Ask.TheVariants as ask
use Rattle.opt_gate.specs.declared.key.Key.{Key}
use Rattle.opt_gate.specs.Lists.{StartsWith}
use Rattle.opt_gate.specs.Pass.{PassView}

module _ {Found : Type 0} where
  -- what a pass asks, as the event of a sender that was told so many entries
  abbrev pub event_of : ℕ → Ask Found → Event Found
  event_of told (ask.Look from) = event.Look told from
  event_of told (ask.Offer f) = event.Offer told f
  event_of told (ask.Batch fs) = event.Batch told fs
  event_of told (ask.Fault f) = event.Fault told f
  event_of told (ask.Quiet share) = event.Quiet told share
  event_of told ask.Stop = event.Stop

  -- how many stops an event is
  abbrev pub stops_of : Event Found → ℕ
  stops_of (event.Look told from) = 0
  stops_of (event.Offer told f) = 0
  stops_of (event.Batch told fs) = 0
  stops_of (event.Fault told f) = 0
  stops_of (event.Quiet told share) = 0
  stops_of event.Stop = 1

module _ {K Found Reason : Type 0} where
  -- the entries that were handed to a pass
  abbrev pub entries_told : PassView K Found Reason → List Found
  entries_told p = take p.told p.knows

module _ {Found Reason : Type 0} where
  -- the entries that an answer hands over
  abbrev pub news_of : Reply Found Reason → List Found
  news_of (reply.News es task) = es
  news_of r = []

  -- the number of entries that were handed over, of n entries: News hands over all
  abbrev pub told_after : ℕ → Reply Found Reason → ℕ → ℕ
  told_after told (reply.News es task) n = n
  told_after told r n = told

  -- the pass after a turn, where it knows these entries and this ending
  abbrev pub pass_after : {K : Type 0} → PassView K Found Reason → Ask Found → Reply Found Reason → List Found → Option (Ending Reason) → PassView K Found Reason
  pass_after p a r knows x = record {
    table = p.table;
    key = p.key;
    number = p.number;
    told = told_after p.told r (length knows);
    room = p.room;
    knows = knows;
    ending = x;
    own = p.own ++ commits_of (event_of p.told a) r;
    stops = p.stops + stops_of (event_of p.told a);
  }

module _ {System State Found Goal Reason : Type 0} (m : Meaning State Found Goal Reason) where
  -- the condition of what a pass asks, by the entries that it was told; start is the core that the gate was started with
  abbrev pub MayAsk : Core System State Found Goal Reason → PassView (Key (Core System State Found Goal Reason)) Found Reason → Ask Found → Type 0
  MayAsk start p (ask.Look from) = Unit {0}
  MayAsk start p (ask.Offer f) = m.judged start.goal (reached m start.base (entries_told p)) f ≡ applies
  MayAsk start p (ask.Batch fs) = (m.mode start.goal ≡ Saturate) × (0 < length fs) × AllIndependent m start.goal (reached m start.base (entries_told p)) fs
  MayAsk start p (ask.Fault f) = (r : Reason) × (m.judged start.goal (reached m start.base (entries_told p)) f ≡ faulty r)
  MayAsk start p (ask.Quiet share) = (share < m.shares start.goal) × Barren m start.goal share (reached m start.base (entries_told p))
  MayAsk start p ask.Stop = Unit {0}

  -- the ending is true after these entries: a legal core of the start has it, with just these entries
  pub record IsTrueEnding (start : Core System State Found Goal Reason) (knows : List Found) (x : Ending Reason) : Type 0 where
    pub core : Core System State Found Goal Reason
    pub of_start : SameStart start core
    pub legal : Legal m core
    pub entries : core.entries ≡ knows
    pub ending : core.ending ≡ Some x

  -- one event of one core, of which the pass then knows all
  pub record IsOneEvent (start : Core System State Found Goal Reason) (p : PassView (Key (Core System State Found Goal Reason)) Found Reason) (a : Ask Found) (r : Reply Found Reason)
      (q : PassView (Key (Core System State Found Goal Reason)) Found Reason) : Type 0 where
    -- the core in the slot, before the event and after it
    pub before : Core System State Found Goal Reason
    pub after : Core System State Found Goal Reason
    -- it is of the system, base, goal and items given that the gate was started with
    pub of_start : SameStart start before
    -- and events led to it from that core
    pub led : EventsLead m start before
    pub may_come : MayCome m before (event_of p.told a)
    pub answers : Answers m before (event_of p.told a) r after
    pub legal : Legal m before
    pub legal_after : Legal m after
    -- what the pass knew: the first entries, and with the ending all of them
    pub knew : StartsWith before.entries p.knows
    pub stood : (x : Ending Reason) → p.ending ≡ Some x → (before.ending ≡ Some x) × (before.entries ≡ p.knows)
    -- what it knows then
    pub knows : q.knows ≡ after.entries
    pub ending : q.ending ≡ after.ending

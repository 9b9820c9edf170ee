-- Lists of events, and what their answers say. An event names no sender: whoever sends it was told of some number of
-- entries, and any number of senders may have been told of any numbers.
use Rattle.std.specs.Prelude.{◌≡◌, ◌≢◌, ℕ, ◌+◌, ◌^◌, ◌<◌, ◌≤◌, ◌⊎◌, List, [], ◌∷◌, ◌++◌, Option, Some, None, length, take, drop}
use Rattle.opt_system.specs.Meaning.{Meaning, applies, faulty, Barren, undone_by}
use Rattle.opt_system.specs.declared.answers.Mode.TheVariants.{Once}
use Rattle.opt_core.specs.declared.event.Ending.{Ending}
use Rattle.opt_core.specs.declared.event.Ending.TheVariants as ending
use Rattle.opt_core.specs.declared.event.Reply.{Reply}
use Rattle.opt_core.specs.declared.event.Reply.TheVariants as reply
use Rattle.opt_core.specs.declared.event.Rest.{Rest}
use Rattle.opt_core.specs.declared.event.Rest.TheVariants as rest
use Rattle.opt_core.specs.declared.event.Event.{Event}
use Rattle.opt_core.specs.declared.event.Event.TheVariants as event
use Rattle.opt_core.specs.Core.{Core, Legal, AllApply, IsEnding, reached}
use Rattle.opt_core.specs.Steps.{MayCome, Answers, IsFresh, with_quiet}

-- one event with its answer, and the cores before and after it
pub record Answered (System State Found Goal Reason : Type 0) : Type 0 where
  pub before : Core System State Found Goal Reason
  pub event : Event Found
  pub reply : Reply Found Reason
  pub after : Core System State Found Goal Reason

module _ {Found : Type 0} where
  -- the events that may be answered by want of memory; a batch tells it in its rest
  abbrev pub MayWant : Event Found → Type 0
  MayWant (event.Look told from) = Unit {0}
  MayWant (event.Offer told f) = Unit {0}
  MayWant (event.Batch told fs) = ⊥
  MayWant (event.Fault told f) = Unit {0}
  MayWant (event.Quiet told share) = ⊥
  MayWant event.Stop = ⊥

  -- the entries with their places, the first at this one
  abbrev pub placed_from : ℕ → List Found → List (ℕ × Found)
  placed_from place [] = []
  placed_from place (f ∷ fs) = (place, f) ∷ placed_from (place + 1) fs

  -- the commits of an event and its answer, with their places: an offer that was answered Committed, and so many of a batch
  abbrev pub commits_of : {Reason : Type 0} → Event Found → Reply Found Reason → List (ℕ × Found)
  commits_of (event.Offer told f) (reply.Committed place) = (place, f) ∷ []
  commits_of (event.Batch told fs) (reply.Batched place n rest) = placed_from place (take n fs)
  commits_of e r = []

  -- commits without their places
  abbrev pub matches_of : List (ℕ × Found) → List Found
  matches_of [] = []
  matches_of (x ∷ xs) = x.1 ∷ matches_of xs

module _ {System State Found Goal Reason : Type 0} where
  -- P holds of each answered event
  abbrev pub Each : (Answered System State Found Goal Reason → Type 0) → List (Answered System State Found Goal Reason) → Type 0
  Each P [] = Unit {0}
  Each P (t ∷ ts) = P t × Each P ts

  -- the matches that were committed, in order
  abbrev pub commits : List (Answered System State Found Goal Reason) → List Found
  commits [] = []
  commits (t ∷ ts) = matches_of (commits_of t.event t.reply) ++ commits ts

  -- both were started alike
  pub record SameStart (c d : Core System State Found Goal Reason) : Type 0 where
    pub system : d.system ≡ c.system
    pub base : d.base ≡ c.base
    pub goal : d.goal ≡ c.goal
    pub given : d.given ≡ c.given

  -- once an ending stands, every later event is answered with it, and the core stays
  abbrev pub StayClosed : List (Answered System State Found Goal Reason) → Core System State Found Goal Reason → Type 0
  StayClosed [] d = Unit {0}
  StayClosed (t ∷ ts) d = ((x : Ending Reason) → t.after.ending ≡ Some x → Each (λ u. u.reply ≡ reply.Closed x) ts × (d ≡ t.after)) × StayClosed ts d

module _ {System State Found Goal Reason : Type 0} (m : Meaning State Found Goal Reason) where
  -- the events lead from c to d: the first comes to c, each other to the core that the one before it left, the
  -- condition of each event holds, and each answer is one of the table
  abbrev pub Run : Core System State Found Goal Reason → List (Answered System State Found Goal Reason) → Core System State Found Goal Reason → Type 0
  Run c [] d = d ≡ c
  Run c (t ∷ ts) d = (t.before ≡ c) × MayCome m t.before t.event × Answers m t.before t.event t.reply t.after × Run t.after ts d

  -- some events lead from c to d
  abbrev pub EventsLead : Core System State Found Goal Reason → Core System State Found Goal Reason → Type 0
  EventsLead c d = (es : List (Answered System State Found Goal Reason)) × Run c es d

  -- the state after all entries, from the base
  abbrev pub at_end : Core System State Found Goal Reason → State
  at_end c = reached m c.base c.entries

  -- the sender was told of fewer than n entries, and what it reports does not hold any more
  abbrev pub IsOutdated : Core System State Found Goal Reason → Event Found → ℕ → Type 0
  IsOutdated c (event.Look told from) n = ⊥
  IsOutdated c (event.Offer told f) n = (told < n) × (m.judged c.goal (at_end c) f ≢ applies)
  IsOutdated c (event.Batch told fs) n = ⊥
  IsOutdated c (event.Fault told f) n = (told < n) × ((r : Reason) → m.judged c.goal (at_end c) f ≢ faulty r)
  IsOutdated c (event.Quiet told share) n = told < n
  IsOutdated c event.Stop n = ⊥

  -- what the rest of a batch says, where n of its matches were committed
  abbrev pub SaysRest : Core System State Found Goal Reason → ℕ → List Found → ℕ → Option (Rest Reason) → Core System State Found Goal Reason → Type 0
  -- none: all were
  SaysRest c told fs n None d = n ≡ length fs
  -- Stale(k): there are k entries, the next match does not apply after them, and the sender was not told of all that there
  -- were before the batch
  SaysRest c told fs n (Some (rest.Stale k)) d = (told < length c.entries) × (k ≡ length d.entries)
      × ((f : Found) × (after : List Found) × (drop n fs ≡ f ∷ after) × (m.judged c.goal (at_end d) f ≢ applies))
  -- Closed(x): the ending x stands and is true of all entries; it is not Stopped
  SaysRest c told fs n (Some (rest.Closed x)) d = (n < length fs) × (d.ending ≡ Some x) × IsEnding m d.goal (at_end d) d.entries d.quiet d.given d.left (Some x) × (x ≢ ending.Stopped)
  SaysRest c told fs n (Some rest.NoMemory) d = n < length fs

  -- what an answer says of the entries before and after its event
  abbrev pub Says : Core System State Found Goal Reason → Event Found → Reply Found Reason → Core System State Found Goal Reason → Type 0
  -- News: the entries past those that the sender was told; no ending stands
  Says c e (reply.News es task) d = (told : ℕ) × (from : ℕ) × (e ≡ event.Look told from) × (es ≡ drop told c.entries) × (c.ending ≡ None) × (d ≡ c)
  -- Committed(p): the offered match applies at the p entries, and is entry p
  Says c e (reply.Committed p) d = (told : ℕ) × (f : Found) × (e ≡ event.Offer told f) × (p ≡ length c.entries)
      × (m.judged c.goal (at_end c) f ≡ applies) × (d.entries ≡ c.entries ++ f ∷ [])
  -- Batched(p, n, rest): the first n matches of the batch apply one after another at the p entries, and are the next entries
  Says c e (reply.Batched p n r) d = (told : ℕ) × (fs : List Found) × (e ≡ event.Batch told fs) × (p ≡ length c.entries)
      × AllApply m c.goal (at_end c) (take n fs) × (d.entries ≡ c.entries ++ take n fs) × SaysRest c told fs n r d
  -- Stale(n): there are n entries, and the sender was told of fewer
  Says c e (reply.Stale n) d = (n ≡ length c.entries) × IsOutdated c e n × (d ≡ c)
  -- Noted: the sender was told of all entries, and the share is barren at them
  Says c e reply.Noted d = (told : ℕ) × (share : ℕ) × (e ≡ event.Quiet told share) × (told ≡ length c.entries)
      × Barren m c.goal share (at_end c) × (d.ending ≡ None) × (d ≡ with_quiet c share)
  -- Closed(x): the ending x stands and is true of all entries; Stopped comes by Stop alone
  Says c e (reply.Closed x) d = (d.ending ≡ Some x) × IsEnding m d.goal (at_end d) d.entries d.quiet d.given d.left (Some x)
      × (d.entries ≡ c.entries) × (x ≡ ending.Stopped → (e ≡ event.Stop) ⊎ (c.ending ≡ Some ending.Stopped))
  -- NoMemory: nothing changed; Quiet and Stop take no memory
  Says c e reply.NoMemory d = MayWant e × (d ≡ c)

  -- what holds of events that lead from c to d
  pub record IsSound (c : Core System State Found Goal Reason) (es : List (Answered System State Found Goal Reason)) (d : Core System State Found Goal Reason) : Type 0 where
    -- the core stays legal
    pub legal : Each (λ t. Legal m t.after) es
    pub legal_end : Legal m d
    -- system, base, goal and items given stay
    pub start : SameStart c d
    -- each answer is true
    pub answers : Each (λ t. Says t.before t.event t.reply t.after) es
    -- the entries are those from before and then each match that was committed, by an offer or in a batch, in that order
    pub entries_are : d.entries ≡ c.entries ++ commits es
    -- a goal of one match gets at most one entry
    pub once : m.mode c.goal ≡ Once → length d.entries ≤ 1
    -- after the ending, every event is answered Closed with it
    pub closed : StayClosed es d

  -- a match that was found at the first `told` entries, and was committed at `place`, is a step from the state that the
  -- entries before it reach: it applies there, it is the next entry, and with it they reach the state after its step
  pub record IsLateStep (c : Core System State Found Goal Reason) (told place : ℕ) (f : Found) (d : Core System State Found Goal Reason) : Type 0 where
    pub older : told ≤ place
    pub place_is : place ≡ length c.entries
    pub applies_now : m.judged c.goal (at_end c) f ≡ applies
    pub entries_are : d.entries ≡ c.entries ++ f ∷ []
    pub state_is : at_end d ≡ m.after (at_end c) f

module _ (System : Type 0) {State Found Goal Reason : Type 0} (m : Meaning State Found Goal Reason) where
  -- whatever events come to a legal core, from whatever senders
  abbrev pub EveryRunIsSound : Type 0
  EveryRunIsSound = (c d : Core System State Found Goal Reason) (es : List (Answered System State Found Goal Reason)) → Legal m c → Run m c es d → IsSound m c es d

  -- the same from a core that was just started: its entries are then just the matches that were committed
  abbrev pub EveryRunFromStart : Type 0
  EveryRunFromStart = (c d : Core System State Found Goal Reason) (es : List (Answered System State Found Goal Reason)) (s : System) (base : State) (goal : Goal) (left : ℕ)
      → m.shares goal < 2 ^ 32 → left < 2 ^ 64 → IsFresh m c s base goal left → Run m c es d → IsSound m c es d × (d.entries ≡ commits es)

  -- the base is the state with all entries taken back
  abbrev pub BaseIsBack : Type 0
  BaseIsBack = (c : Core System State Found Goal Reason) → Legal m c → undone_by m (length c.entries) c.state ≡ c.base

  -- a commit whose search was made at an older list of entries
  abbrev pub LateOffersAreSteps : Type 0
  LateOffersAreSteps = (c d : Core System State Found Goal Reason) (told place : ℕ) (f : Found) → Legal m c
      → MayCome m c (event.Offer told f) → Answers m c (event.Offer told f) (reply.Committed place) d → IsLateStep m c told place f d

  -- where the entries are just those that its sender was told of, the rest of a batch is never Stale
  abbrev pub ToldBatchesAreNotStale : Type 0
  ToldBatchesAreNotStale = (c d : Core System State Found Goal Reason) (told p n k : ℕ) (fs : List Found) → Legal m c → told ≡ length c.entries
      → MayCome m c (event.Batch told fs) → Answers m c (event.Batch told fs) (reply.Batched p n (Some (rest.Stale k))) d → ⊥

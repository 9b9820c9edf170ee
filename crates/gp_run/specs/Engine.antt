-- What an engine tells of itself, and what each of its calls does to that.
use Rattle.std.specs.Prelude.{◌≡◌, ℕ, ◌+◌, ◌-◌, ◌<◌, ◌≤◌, Bool, List, [], ◌∷◌, ◌++◌, length, drop, Option, Some, None}
use Rattle.gp_values.specs.Graph.{Graph}
use Rattle.gp_memory.specs.Free.{Free}
use Rattle.gp_syntax.specs.declared.kinds.NumberKind.{NumberKind}
use Rattle.gp_syntax.specs.Run.{Command, Call, Loop, Program, Item, Stepped, Turned, Back, Ending, Gives, Fails, At, counted, Run, HasApplyingCall, HasFaultyCall, MayGoOn}
use Rattle.gp_run.specs.declared.engine.Called.{Called}
use Rattle.gp_run.specs.declared.engine.Called.TheVariants as called
use Rattle.gp_run.specs.declared.engine.Repeated.{Repeated}
use Rattle.gp_run.specs.declared.engine.Repeated.TheVariants as repeated
use Rattle.gp_run.specs.declared.engine.Turned.TheVariants as turned
use Rattle.gp_run.specs.declared.engine.Turned as turn_answer

-- The program; the graph that the engine has now; the graphs before the steps that it can take back, the last first; how
-- many steps are live; how many counted items are left; how many marks are open; and the items made since the beginning,
-- where they are kept.
pub record View : Type 0 where
  pub program : Program
  pub graph : Graph
  pub before : List Graph
  pub live : ℕ
  pub left : ℕ
  pub marks : ℕ
  pub kept : Option (List Item)

-- the graph, and those to which steps can be taken back
abbrev pub graphs : View → List Graph
graphs v = v.graph ∷ v.before

-- ---- what is added

-- how many steps are live behind an item, and behind a trace, where so many are before it
abbrev pub live_past : ℕ → Item → ℕ
live_past n (Stepped m) = n + 1
live_past n Turned = n
live_past n (Back k) = n - k

abbrev pub live_with : ℕ → List Item → ℕ
live_with n [] = n
live_with n (i ∷ t) = live_with (live_past n i) t

-- items, where they are kept, with a trace behind them
abbrev pub kept_with : Option (List Item) → List Item → Option (List Item)
kept_with None t = None
kept_with (Some items) t = Some (items ++ t)

-- The items of a trace are made: the steps and turns among them are no longer left, its steps are live but for those that
-- it takes back, and where items are kept, it is behind them. The program stays.
pub record Adds (v w : View) (t : List Item) : Type 0 where
  pub program : w.program ≡ v.program
  pub left : w.left + counted t ≡ v.left
  pub live : w.live ≡ live_with v.live t
  pub kept : w.kept ≡ kept_with v.kept t

-- and they are those of a run of a command
pub record Makes (p : Command) (v w : View) (picks : List Bool) (t : List Item) (x : Ending) : Type 0 where
  pub run : Run v.program p v.graph picks t x
  pub adds : Adds v w t

-- The marks stay open; and while one is, what it can take back to stays: the graphs from before are behind those of the
-- steps that are live since. With none, an engine may forget them.
pub record Keeps (v w : View) : Type 0 where
  pub marks : w.marks ≡ v.marks
  pub live : v.live ≤ w.live
  pub graphs : 0 < v.marks → drop (w.live - v.live) (graphs w) ≡ graphs v

-- ---- causes

-- no item is left, and some match of the call's set applies
abbrev pub IsSpent : ℕ → View → Type 0
IsSpent c w = HasApplyingCall w.program c w.graph × (w.left ≡ 0)

-- a rule of the call's set has a faulty match of this kind
abbrev pub HasFaulty : ℕ → ℕ → NumberKind → View → Type 0
HasFaulty c rule kind w = HasFaultyCall w.program c rule kind w.graph

-- no item is left, and the execution may go on
abbrev pub StandsSpent : View → Ending → Type 0
StandsSpent w x = MayGoOn w.program w.graph x × (w.left ≡ 0)

-- ---- the calls

-- A run of the call is added.
pub record MakesCall (p : Command) (v w : View) (x : Ending) : Type 0 where
  pub trace : List Item
  pub makes : Makes p v w [] trace x

-- A row excludes the others: so Blocked comes exactly where the set is. What stops a run need not keep its marks.
abbrev pub HasCalled : ℕ → Called → View → View → Type 0
HasCalled c called.Stepped v w = MakesCall (Call c) v w (Gives w.graph) × Keeps v w
HasCalled c called.Blocked v w = MakesCall (Call c) v w (Fails w.graph) × Keeps v w
HasCalled c called.Bound v w = MakesCall (Call c) v w (At c w.graph) × IsSpent c w
HasCalled c (called.Fault r k) v w = MakesCall (Call c) v w (At c w.graph) × HasFaulty c r k w
HasCalled c called.NoMemory v w = Free

-- the same of the loop over the call
abbrev pub HasRepeated : ℕ → Repeated → View → View → Type 0
HasRepeated c repeated.Ended v w = MakesCall (Loop (Call c)) v w (Gives w.graph) × Keeps v w
HasRepeated c repeated.Bound v w = (x : Ending) × MakesCall (Loop (Call c)) v w x × StandsSpent w x
HasRepeated c (repeated.Fault r k) v w = MakesCall (Loop (Call c)) v w (At c w.graph) × HasFaulty c r k w
HasRepeated c repeated.NoMemory v w = Free

pub record TurnMade (v w : View) : Type 0 where
  pub adds : Adds v w (Turned ∷ [])
  pub graph : w.graph ≡ v.graph
  pub keeps : Keeps v w

-- Made takes one of the items left, so Bound comes exactly where there is none
abbrev pub HasTurned : turn_answer.Turned → View → View → Type 0
HasTurned turned.Made v w = TurnMade v w
HasTurned turned.Bound v w = (w ≡ v) × (v.left ≡ 0)
HasTurned turned.NoMemory v w = Free

-- ---- marks

-- nothing is made, and the graphs before the steps stay where a mark is open before and after
pub record Stays (v w : View) : Type 0 where
  pub program : w.program ≡ v.program
  pub graph : w.graph ≡ v.graph
  pub live : w.live ≡ v.live
  pub left : w.left ≡ v.left
  pub kept : w.kept ≡ v.kept
  pub before : 0 < v.marks → 0 < w.marks → w.before ≡ v.before

-- one mark more is open, and the number of the live steps is told
pub record HasMarked (m : ℕ) (v w : View) : Type 0 where
  pub live_steps : m ≡ v.live
  pub marks : w.marks ≡ v.marks + 1
  pub stays : Stays v w

-- the innermost mark is closed
pub record HasClosed (v w : View) : Type 0 where
  pub marks : w.marks + 1 ≡ v.marks
  pub stays : Stays v w

-- the steps behind the first m are there to be taken back
pub record CanTakeBack (m : ℕ) (v : View) : Type 0 where
  pub open_mark : 0 < v.marks
  pub live : m ≤ v.live
  pub before : v.live - m ≤ length v.before

-- the live steps but for the first m are taken back: the graph is the one from before them; and the innermost mark is closed
pub record TakesBack (m : ℕ) (v w : View) : Type 0 where
  pub adds : Adds v w (Back (v.live - m) ∷ [])
  pub marks : w.marks + 1 ≡ v.marks
  pub graph : (h : Graph) (hs : List Graph) → drop (v.live - m) (graphs v) ≡ h ∷ hs → (w.graph ≡ h) × (0 < w.marks → w.before ≡ hs)

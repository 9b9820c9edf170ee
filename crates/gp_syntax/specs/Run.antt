-- Commands, and what they may do to a graph (Plump 2012, section 4: the semantics of graph programs).
use Rattle.std.specs.Prelude.{◌≡◌, ℕ, ◌-◌, Bool, true, false, List, [], ◌∷◌, ◌++◌, length, take, Some, slice_get, count_by, Contains}
use Rattle.gp_values.specs.Graph.{Graph}
use Rattle.gp_syntax.specs.Rule.{Rule, Found}
use Rattle.gp_syntax.specs.declared.kinds.NumberKind.{NumberKind}
use Rattle.gp_syntax.specs.Step.{CallsTo, Blocked, HasApplying, IsFaulty}

-- Calls and procedures are named by their numbers. A missing `then` or `else` is Skip.
pub data Command : Type 0 where
  Call : ℕ → Command
  Seq : Command → Command → Command
  If : Command → Command → Command → Command
  Try : Command → Command → Command → Command
  Loop : Command → Command
  Or : Command → Command → Command
  Skip : Command
  Fail : Command
  Break : Command
  Procedure : ℕ → Command

-- main: the body of Main; sets: the rule set of each call, by the numbers of its rules
pub record Program : Type 0 where
  pub main : Command
  pub procedures : List Command
  pub sets : List (List ℕ)
  pub rules : List Rule

-- what a run leaves a record of: a step, the beginning of a turn of a loop, and that the last live steps were taken back
pub data Item : Type 0 where
  Stepped : Found → Item
  Turned : Item
  Back : ℕ → Item

-- how an execution may end, each with the graph at which it does: with that graph; by fail; by break; before a call; or
-- before a turn of a loop
pub data Ending : Type 0 where
  Gives : Graph → Ending
  Fails : Graph → Ending
  Breaks : Graph → Ending
  At : ℕ → Graph → Ending
  AtTurn : Graph → Ending

abbrev pub graph_at : Ending → Graph
graph_at (Gives h) = h
graph_at (Fails h) = h
graph_at (Breaks h) = h
graph_at (At c h) = h
graph_at (AtTurn h) = h

-- an execution that stands before a call or a turn, wherever in a command, is one of the whole command that stands there
pub data Stands : Ending → Type 0 where
  at_call : {c : ℕ} {g : Graph} → Stands (At c g)
  at_turn : {g : Graph} → Stands (AtTurn g)

-- ---- live and counted items

-- the steps that are live after an item
abbrev pub live_after : List Found → Item → List Found
live_after ms (Stepped m) = ms ++ m ∷ []
live_after ms Turned = ms
live_after ms (Back k) = take (length ms - k) ms

abbrev pub live_from : List Found → List Item → List Found
live_from ms [] = ms
live_from ms (i ∷ t) = live_from (live_after ms i) t

-- the steps of a trace, in order, but for those that it takes back
abbrev pub live : List Item → List Found
live t = live_from [] t

-- a trace, and then what takes all its live steps back, also where there are none
abbrev pub undone : List Item → List Item
undone t = t ++ Back (length (live t)) ∷ []

abbrev pub is_counted : Item → Bool
is_counted (Stepped m) = true
is_counted Turned = true
is_counted (Back k) = false

-- what a bound counts: steps and turns
abbrev pub counted : List Item → ℕ
counted t = count_by is_counted t

-- ---- runs

-- What a command may do from the graph g: make the items of a trace, and end so. The picks are the answers that its
-- `or` commands got, in order: false for the first part, true for the second.
pub data Run (program : Program) : Command → Graph → List Bool → List Item → Ending → Type 0 where
  call_steps : {c : ℕ} {set : List ℕ} {g h : Graph} {m : Found} → slice_get program.sets c ≡ Some set → CallsTo program.rules set g m h →
      Run program (Call c) g [] (Stepped m ∷ []) (Gives h)
  call_fails : {c : ℕ} {set : List ℕ} {g : Graph} → slice_get program.sets c ≡ Some set → Blocked program.rules set g →
      Run program (Call c) g [] [] (Fails g)
  call_stands : {c : ℕ} {g : Graph} → Run program (Call c) g [] [] (At c g)
  seq : {p q : Command} {g h : Graph} {a b c : List Bool} {t u v : List Item} {x : Ending} →
      Run program p g a t (Gives h) → Run program q h b u x → c ≡ a ++ b → v ≡ t ++ u → Run program (Seq p q) g c v x
  seq_fails : {p q : Command} {g h : Graph} {a : List Bool} {t : List Item} → Run program p g a t (Fails h) → Run program (Seq p q) g a t (Fails h)
  seq_breaks : {p q : Command} {g h : Graph} {a : List Bool} {t : List Item} → Run program p g a t (Breaks h) → Run program (Seq p q) g a t (Breaks h)
  seq_stands : {p q : Command} {g : Graph} {a : List Bool} {t : List Item} {x : Ending} → Run program p g a t x → Stands x → Run program (Seq p q) g a t x
  if_then : {k p q : Command} {g h : Graph} {a b c : List Bool} {t u v : List Item} {x : Ending} →
      Run program k g a t (Gives h) → Run program p g b u x → c ≡ a ++ b → v ≡ undone t ++ u → Run program (If k p q) g c v x
  if_else : {k p q : Command} {g h : Graph} {a b c : List Bool} {t u v : List Item} {x : Ending} →
      Run program k g a t (Fails h) → Run program q g b u x → c ≡ a ++ b → v ≡ undone t ++ u → Run program (If k p q) g c v x
  if_stands : {k p q : Command} {g : Graph} {a : List Bool} {t : List Item} {x : Ending} → Run program k g a t x → Stands x → Run program (If k p q) g a t x
  try_then : {k p q : Command} {g h : Graph} {a b c : List Bool} {t u v : List Item} {x : Ending} →
      Run program k g a t (Gives h) → Run program p h b u x → c ≡ a ++ b → v ≡ t ++ u → Run program (Try k p q) g c v x
  try_else : {k p q : Command} {g h : Graph} {a b c : List Bool} {t u v : List Item} {x : Ending} →
      Run program k g a t (Fails h) → Run program q g b u x → c ≡ a ++ b → v ≡ undone t ++ u → Run program (Try k p q) g c v x
  try_stands : {k p q : Command} {g : Graph} {a : List Bool} {t : List Item} {x : Ending} → Run program k g a t x → Stands x → Run program (Try k p q) g a t x
  loop_stands : {p : Command} {g : Graph} → Run program (Loop p) g [] [] (AtTurn g)
  loop_goes_on : {p : Command} {g h : Graph} {a b c : List Bool} {t u v : List Item} {x : Ending} →
      Run program p g a t (Gives h) → Run program (Loop p) h b u x → c ≡ a ++ b → v ≡ Turned ∷ (t ++ u) → Run program (Loop p) g c v x
  loop_ends : {p : Command} {g h : Graph} {a : List Bool} {t v : List Item} → Run program p g a t (Fails h) → v ≡ Turned ∷ undone t → Run program (Loop p) g a v (Gives g)
  loop_breaks : {p : Command} {g h : Graph} {a : List Bool} {t v : List Item} → Run program p g a t (Breaks h) → v ≡ Turned ∷ t → Run program (Loop p) g a v (Gives h)
  loop_body_stands : {p : Command} {g : Graph} {a : List Bool} {t v : List Item} {x : Ending} → Run program p g a t x → Stands x → v ≡ Turned ∷ t → Run program (Loop p) g a v x
  or_first : {p q : Command} {g : Graph} {a b : List Bool} {t : List Item} {x : Ending} → Run program p g a t x → b ≡ false ∷ a → Run program (Or p q) g b t x
  or_second : {p q : Command} {g : Graph} {a b : List Bool} {t : List Item} {x : Ending} → Run program q g a t x → b ≡ true ∷ a → Run program (Or p q) g b t x
  skips : {g : Graph} → Run program Skip g [] [] (Gives g)
  fails : {g : Graph} → Run program Fail g [] [] (Fails g)
  breaks : {g : Graph} → Run program Break g [] [] (Breaks g)
  procedure : {k : ℕ} {body : Command} {g : Graph} {a : List Bool} {t : List Item} {x : Ending} → slice_get program.procedures k ≡ Some body →
      Run program body g a t x → Run program (Procedure k) g a t x

-- ---- why a run is left where it stands

-- some match of the call's set applies
pub record HasApplyingCall (program : Program) (c : ℕ) (g : Graph) : Type 0 where
  pub set : List ℕ
  pub is_set : slice_get program.sets c ≡ Some set
  pub applies : HasApplying program.rules set g

-- the rule is one of the call's set, and has a faulty match of this kind
pub record HasFaultyCall (program : Program) (c rule : ℕ) (kind : NumberKind) (g : Graph) : Type 0 where
  pub set : List ℕ
  pub is_set : slice_get program.sets c ≡ Some set
  pub in_set : Contains set rule
  pub the_rule : Rule
  pub is_rule : slice_get program.rules rule ≡ Some the_rule
  pub found : Found
  pub faulty : IsFaulty the_rule g found kind

-- an execution stands before a turn of a loop, or before a call of which some match applies
abbrev pub MayGoOn : Program → Graph → Ending → Type 0
MayGoOn program g (Gives h) = ⊥
MayGoOn program g (Fails h) = ⊥
MayGoOn program g (Breaks h) = ⊥
MayGoOn program g (At c h) = (h ≡ g) × HasApplyingCall program c g
MayGoOn program g (AtTurn h) = h ≡ g

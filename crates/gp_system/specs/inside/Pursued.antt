-- What a goal that a crew pursued came to, and what a run with a crew keeps.
use Rattle.std.specs.Prelude.{◌≡◌, ◌⊎◌, ℕ, ◌+◌, ◌-◌, ◌*◌, ◌<◌, ◌≤◌, Bool, List, [], ◌∷◌, All, map, length, drop, Some}
use Rattle.gp_syntax.specs.declared.found.Item.{Item}
use Rattle.gp_syntax.specs.declared.found.Item.TheVariants as items
use Rattle.gp_syntax.specs.declared.command.ProgramParts.{ProgramParts}
use Rattle.gp_syntax.specs.Rule.{Found}
use Rattle.gp_syntax.specs.Tree.{rule_of_tree}
use Rattle.gp_syntax.specs.WellFormed.{IsWellFormed}
use Rattle.gp_step.specs.Laws.{IsNumbered}
use Rattle.gp_journal.specs.Trail.{Trail}
use Rattle.gp_run.specs.declared.engine.Called.{Called}
use Rattle.gp_run.specs.declared.engine.Called.TheVariants as called
use Rattle.opt_system.specs.declared.answers.Mode.{Mode}
use Rattle.opt_system.specs.declared.answers.Mode.TheVariants.{Once, Saturate}
use Rattle.opt_core.specs.declared.event.Ending.{Ending}
use Rattle.opt_core.specs.declared.event.Ending.TheVariants as ending
use Rattle.opt_core.specs.Core.{IsLegal, AllApply, reached}
use Rattle.gp_system.specs.declared.goal.CallGoal.{CallGoal}
use Rattle.gp_system.specs.declared.goal.Fault.{Fault}
use Rattle.gp_system.specs.Gp.{RuleSystem, gp_means}
use Rattle.gp_system.specs.inside.Viewed.{Shown, taken_in}

-- The entries led from the base to the trail, each a step of the goal; so many of the items given are left, and the ending
-- is true there: a legal core has them.
pub record IsPursued (system : RuleSystem) (goal : CallGoal) (base : Trail) (given : ℕ) (at : Trail) (entries : List Found) (left : ℕ) (x : Ending Fault) : Type 0 where
  pub quiet : List Bool
  pub legal : IsLegal (gp_means system) goal base at entries quiet given left (Some x)

-- a trail that has made all but the last ones of these entries, which lead it to the other
pub record IsBehind (system : RuleSystem) (entries : List Found) (trail at : Trail) : Type 0 where
  pub lacking : ℕ
  pub few : lacking ≤ length entries
  pub deep : length at.before + lacking ≡ length trail.before
  pub goal : CallGoal
  pub applies : AllApply (gp_means system) goal at (drop (length entries - lacking) entries)
  pub leads : reached (gp_means system) at (drop (length entries - lacking) entries) ≡ trail

-- so many of the items of these matches are used: all, or all but the turn after the last step
abbrev pub HasUsed : Mode → List Found → ℕ → Type 0
HasUsed Once entries used = used ≡ length entries
HasUsed Saturate entries used = (used ≡ 2 * length entries) ⊎ (used + 1 ≡ 2 * length entries)

-- the items of these matches, but for the turn after the last step
abbrev pub turns_first : List Found → List Item
turns_first [] = []
turns_first (m ∷ ms) = items.Turn ∷ items.Step m ∷ turns_first ms

abbrev pub noted_but_last_turn : List Found → List Item
noted_but_last_turn [] = []
noted_but_last_turn (m ∷ ms) = items.Step m ∷ turns_first ms

-- the rules and sets of a program, with so many shares besides one
abbrev pub system_of : ProgramParts → ℕ → RuleSystem
system_of p further = record { rules = p.rules; sets = p.sets; further = further }

-- a goal of the program's calls, given so many of the items left, came to this between two moments of a run
pub record HasPursued (goal : CallGoal) (given : ℕ) (x : Ending Fault) (v w : Shown) : Type 0 where
  pub further : ℕ
  pub well_formed : All IsWellFormed (map rule_of_tree v.program.rules)
  pub numbered : IsNumbered v.trail.graph
  pub entries : List Found
  pub at : Trail
  -- of the items given, what is left; and what was not given
  pub rest : ℕ
  pub spared : ℕ
  pub left_before : v.left ≡ given + spared
  pub left_behind : w.left ≡ rest + spared
  pub pursued : IsPursued (system_of v.program further) goal v.trail given at entries rest x
  pub now : w ≡ taken_in v at goal.mode entries (v.left - w.left)

-- what a call came to, by how its goal ended
abbrev pub called_of : Ending Fault → Called
called_of ending.Committed = called.Stepped
called_of ending.Blocked = called.Blocked
called_of ending.Bound = called.Bound
called_of (ending.Fault f) = called.Fault f.rule f.kind
called_of ending.Stopped = called.NoMemory

-- the crew's system is that of the program
pub record IsCrewed (s : Shown) (gp : RuleSystem) (workers : ℕ) : Type 0 where
  pub system : gp ≡ system_of s.program gp.further
  pub some : 0 < workers

-- What the entries of a goal over the rules of a program are.
use Rattle.std.specs.Prelude.{◌≡◌, ℕ, List, [], ◌∷◌, ◌++◌, All, Some, slice_get}
use Rattle.gp_syntax.specs.Rule.{Found}
use Rattle.gp_syntax.specs.Step.{CallsTo}
use Rattle.gp_syntax.specs.WellFormed.{IsWellFormed}
use Rattle.gp_step.specs.Laws.{IsNumbered}
use Rattle.gp_journal.specs.Trail.{Trail}
use Rattle.opt_core.specs.Core.{Core, Legal, reached}
use Rattle.gp_system.specs.declared.goal.CallGoal.{CallGoal}
use Rattle.gp_system.specs.declared.goal.Fault.{Fault}
use Rattle.gp_system.specs.Gp.{RuleSystem, rules_of, gp_means}

-- Each entry of a legal core over checked rules is a call of the goal's set: a rule of the set makes the step, from the
-- graph that the entries before it reach to the one that they reach with it, however few of them its search saw.
abbrev pub EntriesAreCalls : Type 0
EntriesAreCalls = (s : RuleSystem) (c : Core RuleSystem Trail Found CallGoal Fault) (set : List ℕ) → All IsWellFormed (rules_of s) → IsNumbered c.base.graph → slice_get s.sets c.goal.call ≡ Some set → Legal (gp_means s) c
    → (before : List Found) (m : Found) (rest : List Found) → c.entries ≡ before ++ m ∷ rest
    → CallsTo (rules_of s) set (reached (gp_means s) c.base before).graph m (reached (gp_means s) c.base (before ++ m ∷ [])).graph

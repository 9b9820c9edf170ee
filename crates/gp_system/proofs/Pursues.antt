-- What the crew made of a call, as two moments of a run.
use Rattle.std.proofs.Common.{◌≡◌, ℕ, ◌-◌, ◌≤◌, List, map, All, ap, subst, ◌∙◌, arith}
use Rattle.gp_values.specs.Graph.{empty_graph}
use Rattle.gp_syntax.specs.Rule.{Found}
use Rattle.gp_syntax.specs.Tree.{rule_of_tree}
use Rattle.gp_syntax.specs.WellFormed.{IsWellFormed}
use Rattle.gp_step.specs.Laws.{IsNumbered}
use Rattle.gp_journal.specs.Trail.{Trail, fresh}
use Rattle.opt_core.specs.declared.event.Ending.{Ending}
use Rattle.gp_system.specs.declared.goal.CallGoal.{CallGoal}
use Rattle.gp_system.specs.declared.goal.Fault.{Fault}
use Rattle.gp_system.specs.Gp.{RuleSystem}
use Rattle.gp_system.specs.inside.Viewed.{Shown, taken_in}
use Rattle.gp_system.specs.inside.Pursued.{IsPursued, HasPursued, system_of}

module _ (v s m w : Shown) (gp : RuleSystem) (goal : CallGoal) (x : Ending Fault) (base at : Trail) (given rest : ℕ) (entries : List Found) (view : s ≡ v) (system : gp ≡ system_of s.program gp.further) (pursued : IsPursued gp goal base given at entries rest x) (based : base ≡ s.trail)
    (well_formed : All IsWellFormed (map rule_of_tree s.program.rules)) (numbered : IsNumbered s.trail.graph) (within : given ≤ s.left) (empty : m ≡ record s { trail = fresh empty_graph }) (taken : w ≡ taken_in m at goal.mode entries (given - rest)) where
  now : w ≡ taken_in s at goal.mode entries (given - rest)
  now = taken ∙ ap (λ (y : Shown). taken_in y at goal.mode entries (given - rest)) empty

  left_now : w.left ≡ s.left - (given - rest)
  left_now = ap (λ (y : Shown). y.left) now

  used_now : given - rest ≡ s.left - w.left
  used_now = omega (arith, pursued.legal.items.1, left_now)

  pub pursued_now : HasPursued goal given x v w
  pursued_now =
      subst (λ (u : Shown). HasPursued goal given x u w) view record {
        further = gp.further;
        well_formed = well_formed;
        numbered = numbered;
        entries = entries;
        at = at;
        rest = rest;
        spared = s.left - given;
        left_before = omega (arith, within);
        left_behind = omega (arith, within, pursued.legal.items.1, left_now);
        pursued = subst (λ (b : Trail). IsPursued (system_of s.program gp.further) goal b given at entries rest x) based (subst (λ (g : RuleSystem). IsPursued g goal base given at entries rest x) system pursued);
        now = now ∙ ap (λ (n : ℕ). taken_in s at goal.mode entries n) used_now;
      }

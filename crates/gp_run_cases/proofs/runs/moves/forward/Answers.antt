use Rattle.std.proofs.Common.{inl, inr, map, sym, subst}
use Rattle.gp_syntax.specs.Tree.{rule_of_tree}
use Rattle.gp_derivation.specs.Stepper.{IsStepperOf}
use Rattle.gp_run_cases.proofs.runs.moves.forward.Goals as goal

pub returns-in-Made : goal.returns-in-Made
returns-in-Made c =
    elim c.in-Made.is [
      | inl made ↦ (c.forward.ensures.made made).of_rules
      | inr end ↦ subst (IsStepperOf (map rule_of_tree c.args.rules.now)) (sym (c.forward.ensures.stays end)) c.requires
    ]

pub returns-in-NoMemory : goal.returns-in-NoMemory
returns-in-NoMemory c = subst (IsStepperOf (map rule_of_tree c.args.rules.now)) (sym (c.forward.ensures.refused c.in-NoMemory.is)) c.requires

use Rattle.std.proofs.Common.{◌∙◌, ap, sym, subst}
use Rattle.gp_journal.specs.Journal.{Kept}
use Rattle.gp_derivation.specs.Stepper.{IsStepperOf}
use Rattle.gp_derivation.proofs.StepperMoves.{starts, of_journal}
use Rattle.gp_derivation.proofs.stepper.Stepper.new.Goals as goal

pub returns-clause-start : goal.returns-clause-start
returns-clause-start c =
    c.starting.ensures
    ∙ starts c.args.journal c.apart-trail.result.0 c.back.new.self c.depth-depth.result c.apart-trail.result.1.items c.apart-trail.ensures.trail c.depth-depth.ensures c.back.ensures.back (ap (λ (k : Kept). k.items) c.apart-trail.ensures.items)

pub returns-clause-of_rules : goal.returns-clause-of_rules
returns-clause-of_rules c = λ rules w. subst (IsStepperOf rules) (sym (returns-clause-start c)) (of_journal rules c.args.journal w)

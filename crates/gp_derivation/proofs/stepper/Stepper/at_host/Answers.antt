use Rattle.std.proofs.Common.{◌≡◌, ◌∙◌, ap, sym, subst}
use Rattle.gp_journal.specs.Trail.{Trail, fresh}
use Rattle.gp_derivation.specs.Stepper.{IsStepperOf, before_first}
use Rattle.gp_derivation.proofs.StepperMoves.{of_items}
use Rattle.gp_derivation.proofs.stepper.Stepper.at_host.Goals as goal

pub returns-clause-of_rules : goal.returns-clause-of_rules
returns-clause-of_rules c = λ rules w.
    let same : c.starting.result ≡ before_first (fresh c.args.host.graph) c.args.items.items = c.starting.ensures ∙ ap (λ (t : Trail). before_first t c.args.items.items) c.new.ensures in
    subst (IsStepperOf rules) (sym same) (of_items rules (fresh c.args.host.graph) w.0 c.args.items.items w.1)

use Rattle.std.proofs.Common.{◌||◌, ap, sym, refl}
use Rattle.gp_scope.specs.Fault.{declares_main}
use Rattle.gp_scope.proofs.Outlines.{declared-Rule, declared-Procedure}
use Rattle.gp_scope.proofs.survey.is_mains.Goals as goal

pub returns-in-Procedure : goal.returns-in-Procedure
returns-in-Procedure c = λ os.
    rw (c.in-Procedure.is, declared-Procedure c.in-Procedure.name c.in-Procedure.declarations c.in-Procedure.body os) (ap (λ b. b || declares_main os) (sym c.is_main.ensures))

pub returns-in-Rule : goal.returns-in-Rule
returns-in-Rule c = λ os. rw (c.in-Rule.is, declared-Rule c.in-Rule.field-0 os) refl

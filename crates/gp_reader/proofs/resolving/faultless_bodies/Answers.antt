use Rattle.std.proofs.Common.{rules, ◌≡◌, Some, IfErr}
use Rattle.gp_scope.specs.Outline.{outline}
use Rattle.gp_scope.specs.Fault.{Fault, fault_of_names, told, of_names}
use Rattle.gp_reader.proofs.Joined.{if_err}
use Rattle.gp_reader.proofs.resolving.faultless_bodies.Goals as goal

pub returns-in_err-check_names-clause-err : goal.returns-in_err-check_names-clause-err
returns-in_err-check_names-clause-err c =
    let os = outline c.args.declarations.now in
    let h : IfErr c.from_residual.result (λ e. (f : Fault) → told e ≡ Some f → fault_of_names os ≡ Some f) = search rules in
    if_err c.from_residual.result _ _ (λ e h f t. of_names (h f t)) h

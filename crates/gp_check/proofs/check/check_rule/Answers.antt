use Rattle.gp_syntax.specs.Tree.{declaration_of}
use Rattle.gp_syntax.specs.Fault.{fault_of}
use Rattle.gp_check.specs.declared.fault.RuleFault.TheVariants as faults
use Rattle.gp_check.proofs.Wholes.{told_by, none_made}
use Rattle.gp_check.proofs.check.check_rule.Goals as goal

pub returns-in_err-scope-clause-rule : goal.returns-in_err-scope-clause-rule
returns-in_err-scope-clause-rule c = none_made _ _ c.from_residual.result c.from_residual.ensures.1

pub returns-in_err-scope-clause-name : goal.returns-in_err-scope-clause-name
returns-in_err-scope-clause-name c = none_made _ _ c.from_residual.result c.from_residual.ensures.1

pub returns-in_err-scope-clause-fault : goal.returns-in_err-scope-clause-fault
returns-in_err-scope-clause-fault c = told_by (fault_of (declaration_of c.args.rule.now)) c.in_err-scope.field-0.0 c.from_residual.result c.from_residual.ensures.1 c.in_err-scope.ensures.fault

pub returns-in_err-parts-clause-rule : goal.returns-in_err-parts-clause-rule
returns-in_err-parts-clause-rule c = none_made _ _ c.from_residual-in_err-parts.result c.from_residual-in_err-parts.ensures.1

pub returns-in_err-parts-clause-name : goal.returns-in_err-parts-clause-name
returns-in_err-parts-clause-name c = none_made _ _ c.from_residual-in_err-parts.result c.from_residual-in_err-parts.ensures.1

pub returns-in_err-parts-clause-fault : goal.returns-in_err-parts-clause-fault
returns-in_err-parts-clause-fault c = told_by (fault_of (declaration_of c.args.rule.now)) faults.NoMemory c.from_residual-in_err-parts.result c.from_residual-in_err-parts.ensures.1 tt

pub new-requires : goal.new-requires
new-requires c = record { declaration = declaration_of c.args.rule.now; no_fault = c.in_ok-scope.ensures.fault; is_rule = c.in_ok-parts.ensures.rule }

pub returns-clause-fault : goal.returns-clause-fault
returns-clause-fault c = c.in_ok-scope.ensures.fault

pub parts-requires-clause-scope : goal.parts-requires-clause-scope
parts-requires-clause-scope c = c.in_ok-scope.ensures.scope

pub parts-requires-clause-simple : goal.parts-requires-clause-simple
parts-requires-clause-simple c = c.in_ok-scope.ensures.simple

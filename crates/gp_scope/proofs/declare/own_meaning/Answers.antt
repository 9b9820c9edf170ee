use Rattle.std.proofs.Common.{◌∙◌, sym}
use Rattle.gp_scope.proofs.Declared.{rule_entries, procedure_entries, main_entries, rule_once, procedure_once}
use Rattle.gp_scope.proofs.declare.own_meaning.Goals as goal

pub returns-in-Rule : goal.returns-in-Rule
returns-in-Rule c = record {
  entries = rule_entries c.args.declaration.now c.in-Rule.field-0 c.args.rules c.args.procedures c.in-Rule.is;
  once = rule_once c.args.declaration.now c.in-Rule.field-0 c.in-Rule.is;
}

pub returns-then-is_main : goal.returns-then-is_main
returns-then-is_main c = record {
  entries = main_entries c.args.declaration.now c.in-Procedure.name c.in-Procedure.declarations c.in-Procedure.body c.args.rules c.args.procedures c.in-Procedure.is (sym c.is_main.ensures ∙ c.if-is_main.true);
  once = procedure_once c.args.declaration.now c.in-Procedure.name c.in-Procedure.declarations c.in-Procedure.body c.in-Procedure.is;
}

pub returns-else-is_main : goal.returns-else-is_main
returns-else-is_main c = record {
  entries = procedure_entries c.args.declaration.now c.in-Procedure.name c.in-Procedure.declarations c.in-Procedure.body c.args.rules c.args.procedures c.in-Procedure.is (sym c.is_main.ensures ∙ c.if-is_main.false);
  once = procedure_once c.args.declaration.now c.in-Procedure.name c.in-Procedure.declarations c.in-Procedure.body c.in-Procedure.is;
}

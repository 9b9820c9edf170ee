-- Threads may share rules and programs. The check looks for a proof of that anew at each type that reaches itself, and gives
-- up at a whole rule: so it is shown here once for each such type, as a row and as a field of another type.
use denote.Builtin.{u32}
use denote.Param.Send.{IsSync, sendable}
use Rattle.std.proofs.Crossing.{crosses}
use Rattle.gp_values.proofs.chars.Chars.TheSendSync as chars
use Rattle.gp_values.proofs.marks.EdgeMark.TheSendSync as edge_mark
use Rattle.gp_values.proofs.marks.NodeMark.TheSendSync as node_mark
use Rattle.gp_values.specs.contracts.marks.EdgeMark as edge_marks
use Rattle.sqlite_items.proofs.boxed.Boxed.TheSendSync as boxed
use Rattle.sqlite_items.proofs.items.Items.TheSendSync as items
use Rattle.gp_syntax.proofs.expression.Signed.TheSendSync as signed
use Rattle.gp_syntax.proofs.expression.SumSign.TheSendSync as sum_sign
use Rattle.gp_syntax.proofs.expression.ProductSign.TheSendSync as product_sign
use Rattle.gp_syntax.proofs.kinds.VariableType.TheSendSync as variable_type
use Rattle.gp_syntax.proofs.name.Name.TheSendSync as name
use Rattle.gp_syntax.proofs.label.SimpleLabel.TheLaws.TheKnot.{sync-SimpleLabel}
use Rattle.gp_syntax.proofs.expression.Expr.TheLaws.TheKnot.{sync-Expr}
use Rattle.gp_syntax.proofs.expression.Cond.TheLaws.TheKnot.{sync-Cond}
use Rattle.gp_syntax.proofs.command.Command.TheLaws.TheKnot.{sync-Command}
use Rattle.gp_syntax.specs.contracts.label.SimpleLabel as label
use Rattle.gp_syntax.specs.contracts.expression.Expr as expression
use Rattle.gp_syntax.specs.contracts.expression.Cond as condition
use Rattle.gp_syntax.specs.contracts.rule.MarkPattern as patterns
use Rattle.gp_syntax.specs.contracts.rule.LeftNode as left_node
use Rattle.gp_syntax.specs.contracts.rule.LeftEdge as left_edge
use Rattle.gp_syntax.specs.contracts.rule.RightNode as right_node
use Rattle.gp_syntax.specs.contracts.rule.RightEdge as right_edge
use Rattle.gp_syntax.specs.contracts.rule.RuleParts as parts
use Rattle.gp_syntax.specs.contracts.rule.Rule as rule
use Rattle.gp_syntax.specs.contracts.command.Command as command
use Rattle.gp_syntax.specs.contracts.command.ProgramParts as program_parts
use Rattle.gp_syntax.specs.contracts.command.Program as program

label_field_sync : IsSync (label.the_field).row
label_field_sync = search (sendable, chars.the_sync, boxed.the_sync, items.the_sync, sync-SimpleLabel, crosses) depth 20

expression_field_sync : IsSync (expression.the_field u32).row
expression_field_sync = search (sendable, chars.the_sync, boxed.the_sync, items.the_sync, signed.the_sync, sum_sign.the_sync, product_sign.the_sync, sync-Expr, crosses) depth 20

condition_field_sync : IsSync (condition.the_field u32 (patterns.the_row edge_marks.the_row)).row
condition_field_sync = search (sendable, expression_field_sync, boxed.the_sync, items.the_sync, edge_mark.the_sync, sync-Cond, crosses) depth 20

condition_sync : IsSync (condition.the_row u32 (patterns.the_row edge_marks.the_row))
condition_sync = search (condition_field_sync, sendable) depth 20

left_node_sync : IsSync left_node.the_row
left_node_sync = search (label_field_sync, sendable, node_mark.the_sync, crosses) depth 20

left_edge_sync : IsSync left_edge.the_row
left_edge_sync = search (label_field_sync, sendable, edge_mark.the_sync, crosses) depth 20

right_node_sync : IsSync right_node.the_row
right_node_sync = search (expression_field_sync, sendable, node_mark.the_sync, crosses) depth 20

right_edge_sync : IsSync right_edge.the_row
right_edge_sync = search (expression_field_sync, sendable, edge_mark.the_sync, crosses) depth 20

parts_field_sync : IsSync (parts.the_field).row
parts_field_sync = search (left_node_sync, left_edge_sync, right_node_sync, right_edge_sync, condition_sync, sendable, name.the_sync, variable_type.the_sync, items.the_sync, crosses) depth 20

pub rule_sync : IsSync rule.the_row
rule_sync = search (parts_field_sync, sendable) depth 20

command_field_sync : IsSync (command.the_field).row
command_field_sync = search (sendable, boxed.the_sync, items.the_sync, sync-Command, crosses) depth 20

command_sync : IsSync command.the_row
command_sync = search (command_field_sync, sendable) depth 20

program_parts_field_sync : IsSync (program_parts.the_field).row
program_parts_field_sync = search (rule_sync, command_field_sync, command_sync, sendable, items.the_sync, crosses) depth 20

pub program_sync : IsSync program.the_row
program_sync = search (program_parts_field_sync, sendable) depth 20

-- The first name that is unknown, among names of nodes or of variables.
use Rattle.std.specs.Prelude.{List, Option}
use Rattle.gp_values.specs.Names.{Name, first_unknown}
use Rattle.gp_syntax.specs.Expression.{Expression}
use Rattle.gp_syntax.specs.Declaration.{node_names, variables_in, nodes_in, nodes_in_condition}
use Rattle.gp_syntax.specs.Fault.{variables_in_condition}
use Rattle.gp_syntax.specs.Tree.{side_of}
use Rattle.gp_clauses.specs.declared.known.Known.{Known}
use Rattle.gp_clauses.specs.declared.known.Known.TheVariants as known
use Rattle.gp_clauses.specs.ConditionShapes.{NamedCondition}

abbrev pub names_known : Known → List Name
names_known (known.Nodes side) = node_names (side_of side.now)
names_known (known.Variables table) = table.now

-- the names that are asked for
abbrev pub references : Known → Expression Name → List Name
references (known.Nodes side) e = nodes_in e
references (known.Variables table) e = variables_in e

abbrev pub references_in_condition : Known → NamedCondition → List Name
references_in_condition (known.Nodes side) c = nodes_in_condition c
references_in_condition (known.Variables table) c = variables_in_condition c

abbrev pub unknown_in : Known → Expression Name → Option Name
unknown_in k e = first_unknown (names_known k) (references k e)

abbrev pub unknown_in_condition : Known → NamedCondition → Option Name
unknown_in_condition k c = first_unknown (names_known k) (references_in_condition k c)

use Rattle.std.proofs.Common.{◌≡◌, flat_map, drop}
use Rattle.gp_values.specs.Names.{first_doubled, first_doubled_behind}
use Rattle.gp_syntax.specs.Fault.{variable_names}
use Rattle.gp_syntax.specs.Tree.{declaration_of}
use Rattle.gp_clauses.specs.inside.Names.{group_names}
use Rattle.gp_clauses.proofs.names.doubled_variable.Given as goal

abbrev pub invariant-loop-group : goal.invariant-loop-group
invariant-loop-group l = first_doubled_behind l.seen (flat_map group_names (drop l.group-index l.group-items)) ≡ first_doubled (variable_names (declaration_of l.rule))

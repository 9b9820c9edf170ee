use Rattle.std.proofs.Common.{◌≡◌, ◌&&◌, drop}
use Rattle.gp_values.specs.Names.{has_name}
use Rattle.gp_syntax.specs.Declaration.{node_names}
use Rattle.gp_syntax.specs.Fault.{first_told, unless, bad_interface}
use Rattle.gp_syntax.specs.Tree.{side_of, declaration_of}
use Rattle.gp_clauses.proofs.names.bad_interface.Given as goal

abbrev pub invariant-loop-name : goal.invariant-loop-name
invariant-loop-name l = first_told (λ n. unless (has_name (node_names (side_of l.rule.left)) n && has_name (node_names (side_of l.rule.right)) n) n) (drop l.name-index l.name-items) ≡ bad_interface (declaration_of l.rule)

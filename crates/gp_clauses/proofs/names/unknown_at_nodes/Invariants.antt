use Rattle.std.proofs.Common.{◌≡◌, drop}
use Rattle.gp_syntax.specs.declared.tree.NodeDecl.{NodeDecl}
use Rattle.gp_syntax.specs.Fault.{first_told}
use Rattle.gp_syntax.specs.Tree.{expression_of}
use Rattle.gp_clauses.specs.inside.Known.{unknown_in}
use Rattle.gp_clauses.proofs.names.unknown_at_nodes.Given as goal

abbrev pub invariant-loop-node : goal.invariant-loop-node
invariant-loop-node l = first_told (λ (n : NodeDecl). unknown_in l.known (expression_of n.label)) (drop l.node-index l.nodes) ≡ first_told (λ (n : NodeDecl). unknown_in l.known (expression_of n.label)) l.nodes

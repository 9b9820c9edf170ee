use Rattle.std.proofs.Common.{◌≡◌, drop}
use Rattle.gp_values.specs.Names.{first_unknown}
use Rattle.gp_syntax.specs.declared.tree.EdgeDecl.{EdgeDecl}
use Rattle.gp_syntax.specs.Declaration.{variables_in}
use Rattle.gp_syntax.specs.Fault.{first_told}
use Rattle.gp_syntax.specs.Tree.{expression_of}
use Rattle.gp_clauses.proofs.scope.unknown_at_edges.Given as goal

abbrev pub invariant-loop-edge : goal.invariant-loop-edge
invariant-loop-edge l =
    first_told (λ (e : EdgeDecl). first_unknown l.table (variables_in (expression_of e.label))) (drop l.edge-index l.edges) ≡ first_told (λ (e : EdgeDecl). first_unknown l.table (variables_in (expression_of e.label))) l.edges

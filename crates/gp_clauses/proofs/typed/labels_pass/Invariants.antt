use Rattle.std.proofs.Common.{◌≡◌, drop}
use Rattle.std.specs.List.{list_all}
use Rattle.gp_syntax.specs.declared.tree.NodeDecl.{NodeDecl}
use Rattle.gp_syntax.specs.declared.tree.EdgeDecl.{EdgeDecl}
use Rattle.gp_syntax.specs.Tree.{expression_of}
use Rattle.gp_clauses.specs.inside.Labels.{passes}
use Rattle.gp_clauses.specs.inside.Tables.{type_by}
use Rattle.gp_clauses.proofs.typed.labels_pass.Given as goal

abbrev pub invariant-nodes : goal.invariant-nodes
invariant-nodes l =
    list_all (λ (n : NodeDecl). passes l.clause (type_by l.variables) (expression_of n.label)) (drop l.node-index l.node-items) ≡ list_all (λ (n : NodeDecl). passes l.clause (type_by l.variables) (expression_of n.label)) l.side.nodes

abbrev pub invariant-edges : goal.invariant-edges
invariant-edges l =
    list_all (λ (e : EdgeDecl). passes l.clause (type_by l.variables) (expression_of e.label)) (drop l.edge-index l.edge-items) ≡ list_all (λ (e : EdgeDecl). passes l.clause (type_by l.variables) (expression_of e.label)) l.side.edges

use Rattle.std.proofs.Common.{◌≡◌, drop, fold}
use Rattle.gp_syntax.specs.declared.tree.NodeDecl.{NodeDecl}
use Rattle.gp_syntax.specs.declared.tree.EdgeDecl.{EdgeDecl}
use Rattle.gp_syntax.specs.Tree.{expression_of}
use Rattle.gp_clauses.specs.inside.Tables.{with_variables_in}
use Rattle.gp_clauses.proofs.variables.add_side.Given as goal

abbrev pub invariant-nodes : goal.invariant-nodes
invariant-nodes l =
    fold (λ t (n : NodeDecl). with_variables_in t (expression_of n.label)) l.table (drop l.node-index l.node-items) ≡ fold (λ t (n : NodeDecl). with_variables_in t (expression_of n.label)) l.fn.table l.side.nodes

abbrev pub invariant-edges : goal.invariant-edges
invariant-edges l =
    fold (λ t (e : EdgeDecl). with_variables_in t (expression_of e.label)) l.table (drop l.edge-index l.edge-items)
    ≡ fold (λ t (e : EdgeDecl). with_variables_in t (expression_of e.label)) (fold (λ t (n : NodeDecl). with_variables_in t (expression_of n.label)) l.fn.table l.side.nodes) l.side.edges

use Rattle.std.proofs.Common.{◌≡◌, drop}
use Rattle.std.specs.List.{list_all}
use Rattle.gp_syntax.specs.declared.tree.NodeDecl.{NodeDecl}
use Rattle.gp_syntax.specs.declared.tree.EdgeDecl.{EdgeDecl}
use Rattle.gp_syntax.specs.Fault.{keeps_node_mark, keeps_edge_mark}
use Rattle.gp_syntax.specs.Tree.{node_of, edge_of, declaration_of}
use Rattle.gp_clauses.proofs.marks.keeps_marks.Given as goal

abbrev pub invariant-nodes : goal.invariant-nodes
invariant-nodes l =
    list_all (λ (n : NodeDecl). keeps_node_mark (declaration_of l.rule) (node_of n)) (drop l.node-index l.node-items) ≡ list_all (λ (n : NodeDecl). keeps_node_mark (declaration_of l.rule) (node_of n)) l.rule.right.nodes

abbrev pub invariant-edges : goal.invariant-edges
invariant-edges l =
    list_all (λ (e : EdgeDecl). keeps_edge_mark (declaration_of l.rule) (edge_of e)) (drop l.edge-index l.edge-items) ≡ list_all (λ (e : EdgeDecl). keeps_edge_mark (declaration_of l.rule) (edge_of e)) l.rule.right.edges

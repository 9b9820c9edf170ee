use Rattle.std.proofs.Common.{◌≡◌, drop}
use Rattle.std.specs.List.{list_all}
use Rattle.gp_syntax.specs.declared.tree.NodeDecl.{NodeDecl}
use Rattle.gp_syntax.specs.declared.tree.EdgeDecl.{EdgeDecl}
use Rattle.gp_syntax.specs.Fault.{is_node_mark, is_edge_mark}
use Rattle.gp_clauses.proofs.marks.has_marks.Given as goal

abbrev pub invariant-nodes : goal.invariant-nodes
invariant-nodes l = list_all (λ (n : NodeDecl). is_node_mark n.mark) (drop l.node-index l.node-items) ≡ list_all (λ (n : NodeDecl). is_node_mark n.mark) l.side.nodes

abbrev pub invariant-edges : goal.invariant-edges
invariant-edges l = list_all (λ (e : EdgeDecl). is_edge_mark e.mark) (drop l.edge-index l.edge-items) ≡ list_all (λ (e : EdgeDecl). is_edge_mark e.mark) l.side.edges

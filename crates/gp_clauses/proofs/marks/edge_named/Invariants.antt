use Rattle.std.proofs.Common.{◌≡◌, map, drop}
use Rattle.gp_syntax.specs.Tree.{edge_of}
use Rattle.gp_syntax.specs.Declaration.{edge_named}
use Rattle.gp_clauses.proofs.marks.edge_named.Given as goal

abbrev pub invariant-loop-edge : goal.invariant-loop-edge
invariant-loop-edge l = edge_named (map edge_of (drop l.edge-index l.edges)) l.name ≡ edge_named (map edge_of l.edges) l.name

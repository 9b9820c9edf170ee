use Rattle.std.proofs.Common.{◌≡◌, map, drop}
use Rattle.gp_syntax.specs.Tree.{node_of}
use Rattle.gp_syntax.specs.Fault.{node_named}
use Rattle.gp_clauses.proofs.marks.node_named.Given as goal

abbrev pub invariant-loop-node : goal.invariant-loop-node
invariant-loop-node l = node_named (map node_of (drop l.node-index l.nodes)) l.name ≡ node_named (map node_of l.nodes) l.name

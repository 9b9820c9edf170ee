use Rattle.std.specs.Prelude.{flat_map}
use Rattle.gp_values.specs.Order.{nodes_from}
use Rattle.gp_hostfile.specs.GraphText.{node_line}
use Rattle.gp_hostfile.specs.inside.Puts.{Puts}
use Rattle.gp_hostfile.proofs.text.put_nodes.Given as goal

abbrev pub invariant-loop-n : goal.invariant-loop-n
invariant-loop-n l = Puts l.initial.sheet l.sheet (flat_map node_line (nodes_from l.graph.graph 0 l.n))

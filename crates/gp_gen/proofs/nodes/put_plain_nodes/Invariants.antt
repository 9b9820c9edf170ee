use Rattle.std.proofs.Common.{map}
use Rattle.std.specs.Prelude.{flat_map}
use Rattle.gp_gen.specs.Host.{numbers_below, plain_node}
use Rattle.gp_gen.specs.Texts.{node_line}
use Rattle.gp_gen.specs.inside.Puts.{Puts}
use Rattle.gp_gen.proofs.nodes.put_plain_nodes.Given as goal

abbrev pub invariant-loop-k : goal.invariant-loop-k
invariant-loop-k l = Puts l.initial.sheet l.sheet (flat_map node_line (map plain_node (numbers_below l.k)))

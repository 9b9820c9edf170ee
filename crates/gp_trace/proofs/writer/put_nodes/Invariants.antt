use Rattle.std.proofs.Common.{map, take, decimal}
use Rattle.gp_trace.specs.inside.Lines.{spaced}
use Rattle.gp_trace.specs.inside.Puts.{Puts}
use Rattle.gp_trace.proofs.writer.put_nodes.Given as goal

abbrev pub invariant-loop-node : goal.invariant-loop-node
invariant-loop-node l = Puts l.initial.sheet l.sheet (spaced (map decimal (take l.node-index l.nodes)))

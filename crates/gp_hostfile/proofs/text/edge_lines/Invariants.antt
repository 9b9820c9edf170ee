use Rattle.std.proofs.Common.{◌≡◌}
use Rattle.gp_values.specs.Order.{edges_from}
use Rattle.gp_hostfile.specs.inside.Lines.{line_keys, entry_keys}
use Rattle.gp_hostfile.proofs.text.edge_lines.Given as goal

abbrev pub invariant-loop-e : goal.invariant-loop-e
invariant-loop-e l = line_keys l.lines.items ≡ entry_keys (edges_from l.graph.graph 0 l.e)

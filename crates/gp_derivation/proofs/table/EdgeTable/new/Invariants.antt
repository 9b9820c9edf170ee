use Rattle.std.proofs.Common.{◌≡◌}
use Rattle.gp_derivation.specs.inside.Table.{own_numbers}
use Rattle.gp_derivation.proofs.table.EdgeTable.new.Given as goal

abbrev pub invariant-loop-e : goal.invariant-loop-e
invariant-loop-e l = l.today.items ≡ own_numbers l.graph.graph 0 l.e

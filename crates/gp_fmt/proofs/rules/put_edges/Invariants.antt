use Rattle.std.proofs.Common.{take}
use Rattle.std.specs.List.{flat_map}
use Rattle.gp_fmt.specs.Rules.{edge}
use Rattle.gp_fmt.specs.inside.Puts.{Puts}
use Rattle.gp_fmt.proofs.rules.put_edges.Given as goal

abbrev pub invariant-each : goal.invariant-each
invariant-each l = Puts l.initial.sheet l.sheet (flat_map edge (take l.e-index l.edges))

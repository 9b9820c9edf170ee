use Rattle.std.proofs.Common.{drop}
use Rattle.gp_fmt.specs.Spaces.{spaced_behind}
use Rattle.gp_fmt.proofs.Written.{IsDone}
use Rattle.gp_fmt.proofs.write.write_behind.Given as goal

abbrev pub invariant-each : goal.invariant-each
invariant-each l = IsDone (spaced_behind l.first l.others) l.initial.out.items l.out.items (spaced_behind l.last (drop l.next-index l.others))

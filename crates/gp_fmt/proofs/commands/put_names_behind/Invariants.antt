use Rattle.std.proofs.Common.{take}
use Rattle.gp_fmt.specs.Commands.{names_behind}
use Rattle.gp_fmt.specs.inside.Puts.{Puts}
use Rattle.gp_fmt.proofs.commands.put_names_behind.Given as goal

abbrev pub invariant-each : goal.invariant-each
invariant-each l = Puts l.initial.sheet l.sheet (names_behind (take l.name-index l.names))

use Rattle.std.proofs.Common.{take}
use Rattle.std.specs.List.{flat_map}
use Rattle.gp_fmt.specs.inside.Links.{group_link}
use Rattle.gp_fmt.specs.inside.Puts.{Puts}
use Rattle.gp_fmt.proofs.rules.put_groups_behind.Given as goal

abbrev pub invariant-each : goal.invariant-each
invariant-each l = Puts l.initial.sheet l.sheet (flat_map group_link (take l.group-index l.groups))

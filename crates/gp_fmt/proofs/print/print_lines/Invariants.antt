use Rattle.std.proofs.Common.{◌≡◌, ◌++◌, take}
use Rattle.std.specs.List.{flat_map}
use Rattle.gp_fmt.specs.Canonical.{line}
use Rattle.gp_fmt.proofs.print.print_lines.Given as goal

abbrev pub invariant-each : goal.invariant-each
invariant-each l = l.text.items ≡ l.initial.text.items ++ flat_map line (take l.d-index l.declarations)

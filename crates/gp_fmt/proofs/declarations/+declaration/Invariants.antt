use Rattle.std.proofs.Common.{◌+◌, ◌*◌, take}
use Rattle.std.specs.List.{flat_map}
use Rattle.gp_fmt.specs.inside.Puts.{Puts}
use Rattle.gp_fmt.specs.Canonical.{declaration}
use Rattle.gp_fmt.specs.inside.Sizes.{declaration_size, declaration_sizes}
use Rattle.gp_fmt.proofs.declarations.+declaration.Given as goal

abbrev pub decreases-put_declaration : goal.decreases-put_declaration
decreases-put_declaration l = 5 * declaration_size l.d.now

abbrev pub decreases-put_locals : goal.decreases-put_locals
decreases-put_locals l = 1 + 5 * declaration_sizes l.declarations.now

abbrev pub invariant-put_locals-each : goal.invariant-put_locals-each
invariant-put_locals-each l = Puts l.initial.sheet l.sheet (flat_map declaration (take l.d-index l.declarations))

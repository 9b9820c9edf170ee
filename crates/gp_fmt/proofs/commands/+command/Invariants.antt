use Rattle.std.proofs.Common.{◌+◌, ◌*◌, take}
use Rattle.std.specs.List.{flat_map}
use Rattle.gp_fmt.specs.inside.Puts.{Puts}
use Rattle.gp_fmt.specs.inside.Links.{sequence_link, choice_link}
use Rattle.gp_fmt.specs.inside.Sizes.{command_size, command_sizes}
use Rattle.gp_fmt.proofs.commands.+command.Given as goal

abbrev pub decreases-put_command : goal.decreases-put_command
decreases-put_command l = 5 * command_size l.c.now

abbrev pub decreases-put_part : goal.decreases-put_part
decreases-put_part l = 1 + 5 * command_size l.c.now

abbrev pub decreases-put_from : goal.decreases-put_from
decreases-put_from l = 2 + 5 * command_size l.c.now

abbrev pub decreases-put_optional : goal.decreases-put_optional
decreases-put_optional l = 3 + 5 * command_size l.c.now

abbrev pub decreases-put_if : goal.decreases-put_if
decreases-put_if l = 4 + 5 * (command_size l.test.now + command_size l.then.now + command_size l.other.now)

abbrev pub decreases-put_try : goal.decreases-put_try
decreases-put_try l = 4 + 5 * (command_size l.test.now + command_size l.then.now + command_size l.other.now)

abbrev pub decreases-put_sequence : goal.decreases-put_sequence
decreases-put_sequence l = 3 + 5 * (command_size l.first.now + command_sizes l.rest.now)

abbrev pub decreases-put_choice : goal.decreases-put_choice
decreases-put_choice l = 3 + 5 * (command_size l.first.now + command_sizes l.rest.now)

abbrev pub invariant-put_sequence-each : goal.invariant-put_sequence-each
invariant-put_sequence-each l = Puts l.initial.sheet l.sheet (flat_map sequence_link (take l.part-index l.rest))

abbrev pub invariant-put_choice-each : goal.invariant-put_choice-each
invariant-put_choice-each l = Puts l.initial.sheet l.sheet (flat_map choice_link (take l.part-index l.rest))

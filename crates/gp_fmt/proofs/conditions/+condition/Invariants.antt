use Rattle.std.proofs.Common.{◌+◌, ◌*◌, take}
use Rattle.std.specs.List.{flat_map}
use Rattle.gp_fmt.specs.inside.Puts.{Puts}
use Rattle.gp_fmt.specs.inside.Links.{condition_link}
use Rattle.gp_fmt.specs.inside.Sizes.{condition_size, condition_sizes}
use Rattle.gp_fmt.proofs.conditions.+condition.Given as goal

abbrev pub decreases-put_condition : goal.decreases-put_condition
decreases-put_condition l = 4 * condition_size l.c.now

abbrev pub decreases-put_part : goal.decreases-put_part
decreases-put_part l = 1 + 4 * condition_size l.c.now

abbrev pub decreases-put_member : goal.decreases-put_member
decreases-put_member l = 2 + 4 * condition_size l.c.now

abbrev pub decreases-put_chain : goal.decreases-put_chain
decreases-put_chain l = 3 + 4 * (condition_size l.first.now + condition_sizes l.rest.now)

abbrev pub invariant-put_chain-each : goal.invariant-put_chain-each
invariant-put_chain-each l = Puts l.initial.sheet l.sheet (flat_map (condition_link l.word l.level) (take l.part-index l.rest))

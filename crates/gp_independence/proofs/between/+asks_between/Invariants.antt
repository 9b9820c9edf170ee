use Rattle.std.proofs.Common.{◌+◌}
use Rattle.gp_independence.specs.inside.Size.{condition_size, condition_sizes}
use Rattle.gp_independence.proofs.between.+asks_between.Given as goal

abbrev pub decreases-asks_between : goal.decreases-asks_between
decreases-asks_between l = condition_size l.condition.now

abbrev pub decreases-some_between : goal.decreases-some_between
decreases-some_between l = 1 + condition_sizes l.rest.now

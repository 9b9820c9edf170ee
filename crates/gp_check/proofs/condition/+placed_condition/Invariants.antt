use Rattle.std.proofs.Common.{◌≡◌, drop, fold}
use Rattle.gp_syntax.specs.Tree.{condition_of, pattern_of}
use Rattle.gp_clauses.specs.Size.{condition_size}
use Rattle.gp_check.proofs.Placing.{with_placed_part}
use Rattle.gp_check.proofs.condition.+placed_condition.Given as goal

abbrev pub decreases-placed_condition : goal.decreases-placed_condition
decreases-placed_condition l = condition_size l.c.now

abbrev pub invariant-parts : goal.invariant-parts
invariant-parts l = fold (with_placed_part l.places l.by) (condition_of pattern_of l.total) (drop l.part-index l.rest) ≡ fold (with_placed_part l.places l.by) (condition_of pattern_of l.initial.total) l.rest

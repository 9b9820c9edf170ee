use Rattle.std.proofs.Common.{◌≡◌, map, take}
use Rattle.gp_syntax.specs.Tree.{label_of, expression_of}
use Rattle.gp_step.proofs.same.+written.Given as goal

abbrev pub invariant-are_written_again-parts : goal.invariant-are_written_again-parts
invariant-are_written_again-parts l = take l.i (map label_of l.left) ≡ take l.i (map expression_of l.right)

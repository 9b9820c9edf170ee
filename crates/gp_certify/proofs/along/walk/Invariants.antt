use Rattle.std.proofs.Common.{◌+◌, ◌≤◌, length, map, vec_capacity}
use Rattle.gp_syntax.specs.Tree.{rule_of_tree, item_of}
use Rattle.gp_certify.specs.inside.Along.{IsWalked}
use Rattle.gp_certify.proofs.along.walk.Given as goal

abbrev pub invariant-loop-n : goal.invariant-loop-n
invariant-loop-n l = record { walked : IsWalked (map rule_of_tree l.rules) l.host.graph (map item_of l.items) l.n l.depths.items l.trail; room : length l.items + 1 ≤ vec_capacity l.depths }

use Rattle.std.proofs.Common.{map, take}
use Rattle.gp_syntax.specs.Tree.{rule_of_tree, item_of}
use Rattle.gp_derivation.specs.inside.Standing.{StandsIn}
use Rattle.gp_derivation.proofs.items.upgrade.Given as goal

abbrev pub invariant-loop-n : goal.invariant-loop-n
invariant-loop-n l = StandsIn (map rule_of_tree l.rules) l.fn.host.graph (map item_of (take l.n l.items)) l.replay

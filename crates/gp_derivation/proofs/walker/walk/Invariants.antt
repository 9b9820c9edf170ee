use Rattle.std.proofs.Common.{map}
use Rattle.gp_syntax.specs.Tree.{rule_of_tree}
use Rattle.gp_journal.specs.Journal.{items_of}
use Rattle.gp_derivation.proofs.Told.{IsOnItsWay}
use Rattle.gp_derivation.proofs.walker.walk.Given as goal

abbrev pub invariant-loop-line : goal.invariant-loop-line
invariant-loop-line l = IsOnItsWay (map rule_of_tree l.rules) l.fn.host.graph (items_of l.fn.items.items) l.script l.line-index l.walker

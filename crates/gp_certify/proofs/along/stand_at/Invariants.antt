use Rattle.std.proofs.Common.{◌-◌, ◌≤◌, map}
use Rattle.gp_syntax.specs.Tree.{rule_of_tree, item_of}
use Rattle.gp_certify.specs.inside.Along.{Stands}
use Rattle.gp_certify.proofs.along.stand_at.Given as goal

abbrev pub invariant-items : goal.invariant-items
invariant-items l = (l.standing.place ≤ l.place) × Stands (map rule_of_tree l.rules) l.host.graph (map item_of l.items) l.standing

abbrev pub decreases-items : goal.decreases-items
decreases-items l = l.place - l.standing.place

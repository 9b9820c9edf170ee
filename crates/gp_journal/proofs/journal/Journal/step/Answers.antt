use Rattle.std.proofs.Common.{map, ap}
use Rattle.gp_syntax.specs.declared.found.Item.TheVariants.{Step}
use Rattle.gp_syntax.specs.Tree.{rule_of_tree}
use Rattle.gp_journal.specs.Trail.{rooted}
use Rattle.gp_journal.proofs.Replays.{goes_on}
use Rattle.gp_journal.proofs.Trails.{led_itself}
use Rattle.gp_journal.proofs.journal.Journal.step.Goals as goal

pub returns-clause-of_rules : goal.returns-clause-of_rules
returns-clause-of_rules c = λ w.
    let rules = map rule_of_tree c.args.rules.now in
    let u = c.advance.new.self in
    rw (c.push_spare.ensures.items, c.in_ok-reserve.ensures.items, c.in_ok-copy.ensures)
    (goes_on rules c.self.inside.items.items (Step c.args.found.now) c.self.inside.trail u (rw (← c.self.view_is) at w)
    (u.graph, c.in_ok-advance.ensures.step, led_itself rules c.self.inside.trail u c.args.found.now c.in_ok-advance.ensures.ok) (ap rooted c.in_ok-advance.ensures.ok))

use Rattle.std.proofs.Common.{refl}
use Rattle.gp_syntax.specs.declared.found.Item.TheVariants.{Back}
use Rattle.gp_journal.specs.Trail.{back_by}
use Rattle.gp_journal.proofs.Replays.{goes_on, rooted_back}
use Rattle.gp_journal.proofs.journal.Journal.back.Goals as goal

pub returns-clause-of_rules : goal.returns-clause-of_rules
returns-clause-of_rules c = λ rules w.
    rw (c.push_spare.ensures.items, c.back.ensures.back)
    (goes_on rules c.self.inside.items.items (Back c.args.k) c.self.inside.trail (back_by c.args.k c.self.inside.trail) (rw (← c.self.view_is) at w) (rw (← c.self.view_is) at c.requires.depth, refl) (rooted_back c.args.k c.self.inside.trail))

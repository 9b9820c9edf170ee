use Rattle.std.proofs.Common.{refl}
use Rattle.gp_syntax.specs.declared.found.Item.TheVariants.{Turn}
use Rattle.gp_journal.proofs.Replays.{goes_on}
use Rattle.gp_journal.proofs.journal.Journal.turn.Goals as goal

pub returns-clause-of_rules : goal.returns-clause-of_rules
returns-clause-of_rules c = λ rules w.
    rw (c.push_spare.ensures.items, c.in_ok-reserve.ensures.items)
    (goes_on rules c.self.inside.items.items Turn c.self.inside.trail c.self.inside.trail (rw (← c.self.view_is) at w) refl refl)

use Rattle.std.proofs.Common.{map}
use Rattle.gp_syntax.specs.Tree.{rule_of_tree}
use Rattle.gp_journal.proofs.Trails.{on_step, on_only_step}
use Rattle.gp_journal.proofs.Replays.{caught_back}
use Rattle.gp_journal.proofs.trail.Trail.follow.Goals as goal

pub returns-in-Step-clause-ok : goal.returns-in-Step-clause-ok
returns-in-Step-clause-ok c = rw c.in-Step.is (on_step c.advance.result (map rule_of_tree c.args.rules.now) c.args.self.now c.advance.new.self c.in-Step.found c.advance.ensures.ok c.advance.ensures.step)

pub returns-in-Step-clause-only : goal.returns-in-Step-clause-only
returns-in-Step-clause-only c = rw c.in-Step.is (on_only_step c.advance.result (map rule_of_tree c.args.rules.now) c.args.self.now c.advance.new.self c.in-Step.found c.advance.ensures.ok c.advance.ensures.only)

pub returns-in-Back-clause-caught : goal.returns-in-Back-clause-caught
returns-in-Back-clause-caught c = rw c.back.ensures.back (caught_back c.in-Back.k c.args.self.now)

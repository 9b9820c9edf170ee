use Rattle.std.proofs.Common.{map}
use Rattle.gp_syntax.specs.Tree.{rule_of_tree}
use Rattle.gp_journal.proofs.Trails.{on_step}
use Rattle.gp_certify.proofs.along.make.Goals as goal

pub returns-in-Step-clause-goes : goal.returns-in-Step-clause-goes
returns-in-Step-clause-goes c = rw c.in-Step.is (on_step c.advance.result (map rule_of_tree c.args.rules.now) c.args.trail.now c.advance.new.self c.in-Step.found c.advance.ensures.ok c.advance.ensures.step)

use Rattle.std.proofs.Common.{◌-◌, ◌+◌, subst, arith}
use Rattle.gp_journal.specs.Leads.{IsTrailOf}
use Rattle.gp_journal.proofs.Trails.{back_step}
use Rattle.gp_journal.proofs.Stacks.{back_of, ended}
use Rattle.gp_journal.proofs.trail.Trail.back.Goals as goal

pub loop-preserved : goal.loop-preserved
loop-preserved c = rw c.back_one.ensures (back_step (c.args.k - c.loop.counter) (c.args.k - (c.loop.counter + 1)) c.loop.self _ (omega arith) c.loop.invariant.left c.loop.invariant.same)

pub returns-clause-of_rules : goal.returns-clause-of_rules
returns-clause-of_rules c = λ rules w. subst (IsTrailOf rules) (ended (c.args.k - c.loop.counter) c.loop.self _ (omega arith) c.loop.invariant.same) (back_of rules c.args.k c.args.self.now w)

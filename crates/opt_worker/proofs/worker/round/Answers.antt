use Rattle.opt_gate.specs.Pass.{start_of}
use Rattle.opt_worker.proofs.Later.{later_trans}
use Rattle.opt_worker.proofs.Replicas.{replica_further}
use Rattle.opt_worker.proofs.worker.round.Goals as goal

pub returns-in-Some-clause-replica : goal.returns-in-Some-clause-replica
returns-in-Some-clause-replica g c =
    replica_further (g.S.System.means c.args.site.now.system.now) (start_of c.args.site.now.gate.now).base c.catch_up.new.at c.catch_up.new.pass.knows c.report.new.pass.knows c.report.ensures.later.knows c.catch_up.ensures.replica

pub returns-in-Some-clause-later : goal.returns-in-Some-clause-later
returns-in-Some-clause-later g c = later_trans c.args.pass.now c.catch_up.new.pass c.report.new.pass c.catch_up.ensures.later c.report.ensures.later

use Rattle.std.proofs.Common.{rules}
use Rattle.opt_gate.specs.Turn.{entries_told, news_of}
use Rattle.opt_gate.specs.Pass.{start_of}
use Rattle.opt_worker.proofs.Replicas.{moved, stayed, went, may_go, told_replica}
use Rattle.opt_worker.proofs.News.{grown}
use Rattle.opt_worker.proofs.worker.catch_up.Goals as goal

pub follow-requires : goal.follow-requires
follow-requires g c =
    let start = start_of c.args.site.now.gate.now in
    let m = g.S.System.means c.args.site.now.system.now in
    let told = grown (entries_told c.args.pass.now) (entries_told c.turn.new.pass) c.in-News.entries c.as_slice.result.now c.turn.result c.in-News.task c.turn.ensures.told c.in-News.is c.as_slice.ensures in
    (start.goal, may_go m start.goal start.base c.args.pass.now c.turn.new.pass c.args.at.now c.as_slice.result.now c.turn.ensures.applies told c.requires.at)

pub returns-in_err-follow-in-News-clause-replica : goal.returns-in_err-follow-in-News-clause-replica
returns-in_err-follow-in-News-clause-replica g c =
    let start = start_of c.args.site.now.gate.now in
    let m = g.S.System.means c.args.site.now.system.now in
    let told = grown (entries_told c.args.pass.now) (entries_told c.turn.new.pass) c.in-News.entries c.as_slice.result.now c.turn.result c.in-News.task c.turn.ensures.told c.in-News.is c.as_slice.ensures in
    let some = c.follow.ensures.some in
    moved m start.goal start.base c.args.pass.now c.turn.new.pass c.args.at.now c.follow.new.at c.as_slice.result.now some.0 (g.met.S.System.lawful c.args.site.now.system.now) c.turn.ensures.applies told c.requires.at some.1 some.2

pub returns-in_ok-follow-in-News-clause-replica : goal.returns-in_ok-follow-in-News-clause-replica
returns-in_ok-follow-in-News-clause-replica g c =
    let start = start_of c.args.site.now.gate.now in
    let m = g.S.System.means c.args.site.now.system.now in
    let told = grown (entries_told c.args.pass.now) (entries_told c.turn.new.pass) c.in-News.entries c.as_slice.result.now c.turn.result c.in-News.task c.turn.ensures.told c.in-News.is c.as_slice.ensures in
    told_replica m start.goal start.base c.follow.new.at c.turn.new.pass (g.met.S.System.lawful c.args.site.now.system.now) c.turn.ensures.applies
    (went m start.goal start.base c.args.pass.now c.turn.new.pass c.args.at.now c.follow.new.at c.as_slice.result.now told c.requires.at c.in_ok-follow-in-News.ensures.all)

pub returns-in_ok-follow-in-News-clause-at : goal.returns-in_ok-follow-in-News-clause-at
returns-in_ok-follow-in-News-clause-at g c =
    let start = start_of c.args.site.now.gate.now in
    let m = g.S.System.means c.args.site.now.system.now in
    let told = grown (entries_told c.args.pass.now) (entries_told c.turn.new.pass) c.in-News.entries c.as_slice.result.now c.turn.result c.in-News.task c.turn.ensures.told c.in-News.is c.as_slice.ensures in
    went m start.goal start.base c.args.pass.now c.turn.new.pass c.args.at.now c.follow.new.at c.as_slice.result.now told c.requires.at c.in_ok-follow-in-News.ensures.all

pub returns-in-Closed-clause-replica : goal.returns-in-Closed-clause-replica
returns-in-Closed-clause-replica g c =
    let start = start_of c.args.site.now.gate.now in
    let m = g.S.System.means c.args.site.now.system.now in
    stayed m start.goal start.base c.args.pass.now c.turn.new.pass c.args.at.now (news_of c.turn.result) (g.met.S.System.lawful c.args.site.now.system.now) c.turn.ensures.applies c.turn.ensures.told c.requires.at

pub returns-in-Closed-clause-done : goal.returns-in-Closed-clause-done
returns-in-Closed-clause-done g c =
    let x = c.in-Closed.field-0 in
    let end = c.turn.ensures.closed x c.in-Closed.is in
    record { ended = (x, end, c.turn.ensures.ending x end); own = c.turn.ensures.own; whole = c.turn.ensures.whole }

pub returns-in_default : goal.returns-in_default
returns-in_default g c =
    let start = start_of c.args.site.now.gate.now in
    let m = g.S.System.means c.args.site.now.system.now in
    record {
      later = search rules;
      replica = stayed m start.goal start.base c.args.pass.now c.turn.new.pass c.args.at.now (news_of c.turn.result) (g.met.S.System.lawful c.args.site.now.system.now) c.turn.ensures.applies c.turn.ensures.told c.requires.at;
      share = tt;
      at = tt;
      done = tt;
    }

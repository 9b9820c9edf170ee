use Rattle.opt_tables.proofs.Cases.{one_known}
use Rattle.opt_tables.proofs.tests.gates.joined.commit_and_join.Goals as goal

pub returns : goal.returns
returns g c =
    let r = c.requires.passes in
    one_known c.args.gate.now c.args.p c.args.q c.turn-reply.new.pass c.join.new.self c.args.found c.in-Committed.field-0 c.turn-reply.result r.0 r.1 r.2 c.in-Committed.is c.turn-reply.ensures.pass c.join.ensures.joined c.join.ensures.own c.join.ensures.whole

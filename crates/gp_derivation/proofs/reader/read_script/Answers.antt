use Rattle.std.proofs.Common.{refl, arith}
use Rattle.gp_derivation.proofs.Words.{read_more, breaks_here}
use Rattle.gp_derivation.proofs.reader.read_script.Goals as goal

pub loop-rest-preserved : goal.loop-rest-preserved
loop-rest-preserved c =
    read_more c.args.text.now c.loop-rest.rest.now _ c.split_line.result.0.now c.split_line.result.1.now c.loop-rest.lines.items c.push.new.self.items c.in-Some.line c.loop-rest.invariant c.split_line.ensures.lines c.in-Some.ensures
    c.in_ok-push-in-Some.ensures.items refl

pub returns-in-None-clause-fault : goal.returns-in-None-clause-fault
returns-in-None-clause-fault c =
    breaks_here c.args.text.now c.loop-rest.rest.now c.split_line.result.0.now c.split_line.result.1.now c.loop-rest.lines.items _ c.loop-rest.invariant c.split_line.ensures.lines c.in-None.ensures (omega arith)

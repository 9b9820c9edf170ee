use Rattle.std.proofs.Common.{inl, arith}
use Rattle.gp_trace.proofs.WordFacts.{at_none, at_some}
use Rattle.gp_trace.proofs.LineFacts.{stop_at, more_at, out_at}
use Rattle.gp_trace.proofs.reader.read_lines.Goals as goal

pub returns-in-None-clause-fault : goal.returns-in-None-clause-fault
returns-in-None-clause-fault c =
    inl (stop_at c.args.text.now c.loop-end.items.items c.loop-end.rest.now c.in-Some.end _ _ _ _ c.loop-end.invariant c.in-Some.ensures c.split_at.ensures.front c.eq.ensures c.if-eq.false c.as_slice.ensures (at_none _ _ _ c.in-None.is c.in_ok-item.ensures) (omega arith))

pub loop-end-preserved : goal.loop-end-preserved
loop-end-preserved c =
    more_at c.args.text.now c.loop-end.items.items _ c.loop-end.rest.now _ c.in-Some.end _ _ c.loop-end.invariant c.in-Some.ensures c.split_at.ensures.front c.split_at-in-Some.ensures.back (at_some _ _ _ _ c.in-Some-2.is c.in_ok-item.ensures) c.in_ok-push-in-Some-2.ensures.items

pub returns-clause-fault : goal.returns-clause-fault
returns-clause-fault c = inl (out_at c.args.text.now c.loop-end.items.items c.loop-end.rest.now _ c.loop-end.invariant (c.in_default.ensures {u = tt}) (omega arith))

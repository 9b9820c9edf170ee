use Rattle.std.proofs.lemmas.Result.{on_ok_weaker}
use Rattle.gp_reader.proofs.Trees.{calls_by, chain_calls, branch_calls, loop_calls, procedure_calls, no_calls, two_more, three_more}
use Rattle.gp_reader.proofs.calls.+push_calls.Goals as goal

pub push_calls-returns-in_ok-push-in-Proc : goal.push_calls-returns-in_ok-push-in-Proc
push_calls-returns-in_ok-push-in-Proc t c = rw (procedure_calls _ c.in-Proc.number c.in-Proc.is) (c.in_ok-push-in-Proc.ensures.items)

pub push_calls-returns-in-Loop : goal.push_calls-returns-in-Loop
push_calls-returns-in-Loop t c = rw (loop_calls _ c.in-Loop.body c.in-Loop.is, ← c.get.ensures) c.push_calls.ensures

pub push_calls-returns-in_ok-push_calls-in-If-2 : goal.push_calls-returns-in_ok-push_calls-in-If-2
push_calls-returns-in_ok-push_calls-in-If-2 t c =
    rw (branch_calls _ c.in-If.condition c.in-If.then c.in-If.other c.in-If.is, ← c.get-in-If.ensures, ← c.get-in-If-2.ensures, ← c.get-in-If-3.ensures)
    (on_ok_weaker c.push_calls-in-If-3.result (λ e. three_more c.args.called.now.items _ _ _ _ _ _ c.in_ok-push_calls-in-If.ensures c.in_ok-push_calls-in-If-2.ensures e) c.push_calls-in-If-3.ensures)

pub push_calls-returns-in_ok-push_calls-in-Seq : goal.push_calls-returns-in_ok-push_calls-in-Seq
push_calls-returns-in_ok-push_calls-in-Seq t c =
    rw (chain_calls _ c.in-Seq.first c.in-Seq.rest c.in-Seq.is, ← c.get-in-Seq.ensures, ← c.as_slice.ensures)
    (on_ok_weaker c.push_all_calls.result (λ e. two_more c.args.called.now.items _ _ _ _ c.in_ok-push_calls-in-Seq.ensures e) c.push_all_calls.ensures)

pub push_calls-returns-in-Call : goal.push_calls-returns-in-Call
push_calls-returns-in-Call t c = no_calls _ c.in-Call.is _

pub push_calls-returns-in-Call-2 : goal.push_calls-returns-in-Call-2
push_calls-returns-in-Call-2 t c = no_calls _ c.in-Call.is _

pub push_calls-returns-in-Call-3 : goal.push_calls-returns-in-Call-3
push_calls-returns-in-Call-3 t c = no_calls _ c.in-Call.is _

pub push_calls-returns-in-Call-4 : goal.push_calls-returns-in-Call-4
push_calls-returns-in-Call-4 t c = no_calls _ c.in-Call.is _

use Rattle.std.proofs.Common.{sym, ap, ◌∙◌, false}
use Rattle.gp_syntax.specs.Tree.{command_of}
use Rattle.gp_reader.specs.declared.breaks.Judged.{Judged}
use Rattle.gp_reader.specs.inside.Judged.{strays_by, rest_judged}
use Rattle.gp_reader.proofs.Judges.{chain_is, branches_are, loop_is, call_is, break_is, others_are, judged, with_branches}
use Rattle.gp_reader.proofs.breaks.+judge.Goals as goal

pub judge-returns-in-Break : goal.judge-returns-in-Break
judge-returns-in-Break t c = sym (break_is c.args.known.now c.args.command.now c.in-Break.is)

pub judge-returns-in-Proc : goal.judge-returns-in-Proc
judge-returns-in-Proc t c = rw (call_is c.args.known.now c.args.command.now c.in-Proc.number c.in-Proc.is) (ap (λ b. record { breaks = b; strays = false }) c.is_known.ensures)

pub judge-returns-in-Loop : goal.judge-returns-in-Loop
judge-returns-in-Loop t c = rw (loop_is c.args.known.now c.args.command.now c.in-Loop.body c.in-Loop.is) (ap (λ b. record { breaks = false; strays = b }) (ap (λ (j : Judged). j.strays) c.judge.ensures ∙ ap (λ b. strays_by c.args.known.now (command_of b)) c.get.ensures))

pub judge-returns-in-Call : goal.judge-returns-in-Call
judge-returns-in-Call t c = sym (others_are c.args.known.now c.args.command.now c.in-Call.is)

pub judge-returns-in-Call-2 : goal.judge-returns-in-Call-2
judge-returns-in-Call-2 t c = sym (others_are c.args.known.now c.args.command.now c.in-Call.is)

pub judge-returns-in-Call-3 : goal.judge-returns-in-Call-3
judge-returns-in-Call-3 t c = sym (others_are c.args.known.now c.args.command.now c.in-Call.is)

pub judge-returns-in-If : goal.judge-returns-in-If
judge-returns-in-If t c =
    rw (branches_are c.args.known.now c.args.command.now c.in-If.condition c.in-If.then c.in-If.other c.in-If.is)
    (with_branches _ _ _ _ _ _ _ _ c.before-in-If.ensures c.or.ensures (c.judge-asked.ensures ∙ ap (judged c.args.known.now) c.get-in-If.ensures) (c.judge-done.ensures ∙ ap (judged c.args.known.now) c.get-in-If-2.ensures) (c.judge-in-If.ensures ∙ ap (judged c.args.known.now) c.get-in-If-3.ensures))

pub judge-returns-in-Seq : goal.judge-returns-in-Seq
judge-returns-in-Seq t c =
    rw (chain_is c.args.known.now c.args.command.now c.in-Seq.first c.in-Seq.rest c.in-Seq.is)
    (c.judge_rest.ensures ∙ ap (λ j. rest_judged c.args.known.now j c.as_slice.result.now) (c.judge-judged.ensures ∙ ap (judged c.args.known.now) c.get-in-Seq.ensures) ∙ ap (rest_judged c.args.known.now (judged c.args.known.now c.in-Seq.first)) c.as_slice.ensures)

use Rattle.std.proofs.lemmas.Result.{IfOk-weaker}
use Rattle.gp_words.specs.Told.{run_now, demo_now, check_now, fmt_now, step_now}
use Rattle.gp_cli.specs.Answer.{RunAnswers, DemoAnswers, CheckAnswers, FmtAnswers, StepAnswers, of_run, of_demo, of_check, of_fmt, of_step}
use Rattle.gp_cli.proofs.Runs.{told_so}
use Rattle.gp_cli.proofs.Settled.{answered}
use Rattle.gp_cli.proofs.top.said_by_command.Goals as goal

pub returns-in-Run-clause-answer : goal.returns-in-Run-clause-answer
returns-in-Run-clause-answer g c =
    let k = run_now c.in-Run.command in
    IfOk-weaker c.settled.result _ _ (λ s is words e. rw c.in-Run.is (told_so (answered (RunAnswers _ _ k) c.said_by_files.result c.said_by_files.ensures is) (λ said x. of_run {k = k} (rw c.in-Run.is at e) x))) c.settled.ensures.answer

pub returns-in-Run-clause-unread : goal.returns-in-Run-clause-unread
returns-in-Run-clause-unread g c = λ none. absurd (rw c.in-Run.is at none)

pub returns-in-Demo-clause-answer : goal.returns-in-Demo-clause-answer
returns-in-Demo-clause-answer g c =
    let k = demo_now c.in-Demo.command in
    IfOk-weaker c.settled-in-Demo.result _ _ (λ s is words e. rw c.in-Demo.is (told_so (answered (DemoAnswers k) c.demo.result c.demo.ensures is) (λ said x. of_demo {k = k} (rw c.in-Demo.is at e) x))) c.settled-in-Demo.ensures.answer

pub returns-in-Check-clause-answer : goal.returns-in-Check-clause-answer
returns-in-Check-clause-answer g c =
    let k = check_now c.in-Check.command in
    IfOk-weaker c.settled-in-Check.result _ _ (λ s is words e. rw c.in-Check.is (told_so (answered (CheckAnswers _ _ k) c.check.result c.check.ensures is) (λ said x. of_check {k = k} (rw c.in-Check.is at e) x))) c.settled-in-Check.ensures.answer

pub returns-in-Check-clause-unread : goal.returns-in-Check-clause-unread
returns-in-Check-clause-unread g c = λ none. absurd (rw c.in-Check.is at none)

pub returns-in-Fmt-clause-answer : goal.returns-in-Fmt-clause-answer
returns-in-Fmt-clause-answer g c =
    let k = fmt_now c.in-Fmt.command in
    IfOk-weaker c.settled-in-Fmt.result _ _ (λ s is words e. rw c.in-Fmt.is (told_so (answered (FmtAnswers _ _ k) c.fmt.result c.fmt.ensures is) (λ said x. of_fmt {k = k} (rw c.in-Fmt.is at e) x))) c.settled-in-Fmt.ensures.answer

pub returns-in-Fmt-clause-unread : goal.returns-in-Fmt-clause-unread
returns-in-Fmt-clause-unread g c = λ none. absurd (rw c.in-Fmt.is at none)

pub returns-in-Step-clause-answer : goal.returns-in-Step-clause-answer
returns-in-Step-clause-answer g c =
    let k = step_now c.in-Step.command in
    IfOk-weaker c.settled-in-Step.result _ _ (λ s is words e. rw c.in-Step.is (told_so (answered (StepAnswers _ _ k) c.step.result c.step.ensures is) (λ said x. of_step {k = k} (rw c.in-Step.is at e) x))) c.settled-in-Step.ensures.answer

pub returns-in-Step-clause-unread : goal.returns-in-Step-clause-unread
returns-in-Step-clause-unread g c = λ none. absurd (rw c.in-Step.is at none)

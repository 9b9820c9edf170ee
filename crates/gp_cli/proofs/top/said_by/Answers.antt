use Rattle.std.proofs.Common.{refl, sym}
use Rattle.std.proofs.lemmas.Result.{IfOk-weaker}
use Rattle.gp_cli.specs.Texts.{usage}
use Rattle.gp_cli.specs.Answer.{of_words}
use Rattle.gp_cli.proofs.Commands.{asked_so}
use Rattle.gp_cli.proofs.top.said_by.Goals as goal

pub returns-in-None-clause-answer : goal.returns-in-None-clause-answer
returns-in-None-clause-answer g c = λ words e. record { said = usage; tells = refl; holds = of_words (sym (rw c.in-None.is at e)) }

pub returns-in-Some-clause-answer : goal.returns-in-Some-clause-answer
returns-in-Some-clause-answer g c =
    IfOk-weaker c.said_by_command.result _ _ (λ s h words e. let is = sym (rw c.in-Some.is at e) in asked_so words _ is (h words is)) c.said_by_command.ensures.answer

pub returns-in-Some-clause-unread : goal.returns-in-Some-clause-unread
returns-in-Some-clause-unread g c = rw c.in-Some.is c.said_by_command.ensures.unread

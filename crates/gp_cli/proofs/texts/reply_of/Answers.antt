use Rattle.std.proofs.lemmas.Result.{IfOk-weaker}
use Rattle.gp_cli.specs.Texts.{derivation_shown, no_derivation_shown, formatted_shown, walked_shown, bound_shown, number_shown}
use Rattle.gp_cli.proofs.Shown.{on_err_shown, on_out_shown}
use Rattle.gp_cli.proofs.texts.reply_of.Goals as goal

pub returns-in-Graph : goal.returns-in-Graph
returns-in-Graph c = rw c.in-Graph.is (IfOk-weaker c.graph_reply.result _ _ (λ r h asked said is. rw is.2 (h asked is.0 is.1)) c.graph_reply.ensures)

pub returns-in-Fail : goal.returns-in-Fail
returns-in-Fail c = rw c.in-Fail.is (IfOk-weaker c.fail_reply.result _ _ (λ r h asked said is. rw is.2 (h asked is.0 is.1)) c.fail_reply.ensures)

pub returns-in-Demo : goal.returns-in-Demo
returns-in-Demo c = rw c.in-Demo.is (IfOk-weaker c.demo_reply.result _ _ (λ r h asked said is. rw is.2 (h asked is.0 is.1)) c.demo_reply.ensures)

pub returns-in-Derivation : goal.returns-in-Derivation
returns-in-Derivation c = rw c.in-Derivation.is (IfOk-weaker c.verdict.result _ _ (λ r h asked said is. rw is (on_out_shown derivation_shown h)) c.verdict.ensures)

pub returns-in-NoDerivation : goal.returns-in-NoDerivation
returns-in-NoDerivation c = rw c.in-NoDerivation.is (IfOk-weaker c.verdict-in-NoDerivation.result _ _ (λ r h asked said is. rw is (on_out_shown no_derivation_shown h)) c.verdict-in-NoDerivation.ensures)

pub returns-in-Formatted : goal.returns-in-Formatted
returns-in-Formatted c = rw c.in-Formatted.is (λ asked said is. rw is (on_out_shown formatted_shown (rw c.new.ensures.items at c.on_out.ensures)))

pub returns-in-Walked : goal.returns-in-Walked
returns-in-Walked c = rw c.in-Walked.is (λ asked said is. rw is (on_out_shown walked_shown (rw c.new-in-Walked.ensures.items at c.on_out-in-Walked.ensures)))

pub returns-in-Bound : goal.returns-in-Bound
returns-in-Bound c = rw c.in-Bound.is (IfOk-weaker c.told.result _ _ (λ r h asked said is. rw is (on_err_shown bound_shown h)) (c.told.ensures _ c.bound_text.ensures))

pub returns-in-Number : goal.returns-in-Number
returns-in-Number c = rw c.in-Number.is (IfOk-weaker c.told-in-Number.result _ _ (λ r h asked said is. rw is (on_err_shown number_shown h)) (c.told-in-Number.ensures _ c.number_text.ensures))

pub returns-in-Refused : goal.returns-in-Refused
returns-in-Refused c = rw c.in-Refused.is (IfOk-weaker c.refused.result _ _ (λ r h asked said is. rw is (h asked)) c.refused.ensures)

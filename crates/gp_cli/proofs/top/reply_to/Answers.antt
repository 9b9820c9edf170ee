use Rattle.std.proofs.Common.{map}
use Rattle.std.specs.Prelude.{string_bytes}
use Rattle.std.proofs.lemmas.Result.{IfOk-weaker}
use Rattle.gp_cli.specs.Answer.{asks_journal}
use Rattle.gp_cli.proofs.top.reply_to.Goals as goal

pub returns-clause-replies : goal.returns-clause-replies
returns-clause-replies g c =
    let words = map string_bytes c.args.words.now in
    let told = c.in_ok-said.ensures.answer words c.in_ok-command.ensures.command in
    IfOk-weaker c.reply_of.result _ _ (λ r h. record { said = told.said; is_true = told.holds; shows = h (asks_journal words) told.said told.tells }) c.reply_of.ensures

pub returns-clause-unread : goal.returns-clause-unread
returns-clause-unread g c = rw (← c.in_ok-command.ensures.command) c.in_ok-said.ensures.unread

pub returns-in_err-said-clause-unread : goal.returns-in_err-said-clause-unread
returns-in_err-said-clause-unread g c = rw (← c.in_ok-command.ensures.command) c.in_err-said.ensures.unread

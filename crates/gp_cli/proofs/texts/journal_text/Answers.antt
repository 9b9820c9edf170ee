use Rattle.std.proofs.lemmas.Result.{IfOk-weaker}
use Rattle.gp_cli.proofs.Shown.{kept_shown, none_shown}
use Rattle.gp_cli.proofs.texts.journal_text.Goals as goal

pub returns-in-Some : goal.returns-in-Some
returns-in-Some c = rw c.in-Some.is (IfOk-weaker c.trace_text.result _ _ (λ v h. kept_shown _ h) c.trace_text.ensures)

pub returns-in-None : goal.returns-in-None
returns-in-None c = rw (c.in-None.is, c.new.ensures.items) none_shown

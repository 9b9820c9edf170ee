use Rattle.gp_cli.specs.Texts.{fail_shown}
use Rattle.gp_cli.proofs.Shown.{on_out_shown}
use Rattle.gp_cli.proofs.texts.fail_reply.Goals as goal

pub returns : goal.returns
returns c = λ asked t left. on_out_shown (fail_shown (c.in_ok-trace.ensures asked t left.items)) (rw c.in_ok-text.ensures.items at c.on_out.ensures)

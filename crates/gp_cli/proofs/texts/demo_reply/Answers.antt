use Rattle.gp_cli.specs.Texts.{demo_shown}
use Rattle.gp_cli.proofs.Shown.{on_out_shown}
use Rattle.gp_cli.proofs.texts.demo_reply.Goals as goal

pub returns : goal.returns
returns c = λ asked t left. on_out_shown demo_shown (rw (c.new.ensures.items, c.in_ok-text.ensures t left.live_steps) at c.on_out.ensures)

use Rattle.gp_cli.specs.Texts.{graph_shown}
use Rattle.gp_cli.proofs.Shown.{on_out_shown}
use Rattle.gp_cli.proofs.texts.graph_reply.Goals as goal

pub returns : goal.returns
returns c = λ asked t left. on_out_shown (graph_shown (c.in_ok-trace.ensures asked t left.items) c.in_ok-text.ensures) c.on_out.ensures

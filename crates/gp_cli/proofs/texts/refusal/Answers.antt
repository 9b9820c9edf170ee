use Rattle.gp_cli.proofs.texts.refusal.Goals as goal

pub returns : goal.returns
returns c = rw c.in_ok-from_slice.ensures.items at c.on_err.ensures

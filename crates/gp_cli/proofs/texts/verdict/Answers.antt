use Rattle.gp_cli.proofs.texts.verdict.Goals as goal

pub returns : goal.returns
returns c = rw (c.new.ensures.items, c.in_ok-copied.ensures.items) at c.on_out.ensures

use Rattle.gp_words.specs.Told.{demo_now}
use Rattle.gp_cli.proofs.Demos.{makes}
use Rattle.gp_cli.proofs.demo.made.Goals as goal

pub returns : goal.returns
returns c = makes (demo_now c.args.command) _ (rw (c.deref.ensures.value, c.in_ok-texts.ensures.program, c.deref-2.ensures.value, c.in_ok-texts.ensures.host) at c.both_of.ensures)

use Rattle.gp_cli.proofs.run.run.Goals as goal

pub returns : goal.returns
returns g c = record { last = _; ended = rw c.of_seed-choices.ensures at c.execute.ensures }

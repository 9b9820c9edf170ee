use Rattle.opt_tables.proofs.tests.cores.sending.held_in.Goals as goal

pub seek-requires : goal.seek-requires
seek-requires g c = (g.met.S.System.lawful c.args.s.now).some_share c.args.goal

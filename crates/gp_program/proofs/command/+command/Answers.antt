use Rattle.gp_program.proofs.Simples.{simple_more}
use Rattle.gp_program.proofs.command.+command.Goals as goal

pub read_simple-returns : goal.read_simple-returns
read_simple-returns t c = rw (simple_more c.args.room c.if-room-eq0.false) c.read_simple_in.ensures

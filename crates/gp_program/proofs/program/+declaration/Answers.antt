use Rattle.gp_program.proofs.Simples.{declarations_more}
use Rattle.gp_program.proofs.program.+declaration.Goals as goal

pub read_declarations-returns : goal.read_declarations-returns
read_declarations-returns t c = rw (declarations_more c.args.rooms.rules c.args.rooms.locals c.if-locals-eq0.false) c.read_declarations_in.ensures

use Rattle.gp_program.proofs.Widening.{programs_have_room}
use Rattle.gp_program.proofs.laws.programs_have_room.Goals as goal

pub returns : goal.returns
returns c = programs_have_room

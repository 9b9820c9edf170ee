use Rattle.std.proofs.Common.{sym, ◌∙◌}
use Rattle.gp_io.proofs.Pieces.{pieces_joined}
use Rattle.gp_io.proofs.mem_sink.MemSink.bytes.Goals as goal

pub returns-clause-pieces : goal.returns-clause-pieces
returns-clause-pieces c = rw (← c.self.view_is) (c.as_slice.ensures.value ∙ sym (pieces_joined c.self.inside.lengths.items c.self.inside.bytes.items c.self.invariant.4))

use Rattle.std.proofs.Common.{◌∙◌}
use Rattle.gp_io.proofs.Pieces.{pieces_measured}
use Rattle.gp_io.proofs.mem_sink.MemSink.lengths.Goals as goal

pub returns : goal.returns
returns c = rw (← c.self.view_is) (c.as_slice.ensures.value ∙ pieces_measured c.self.inside.lengths.items c.self.inside.bytes.items c.self.invariant.4)

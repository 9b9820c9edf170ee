use Rattle.gp_io.proofs.Streams.{more_out, within}
use Rattle.gp_io.proofs.std_sink.write_whole.Goals as goal

pub loop-done-preserved : goal.loop-done-preserved
loop-done-preserved g c = record {
  within = within _ _ _ c.loop-done-test.true c.in-Ok.ensures.bound;
  out = more_out _ _ _ _ _ _ c.loop-done.invariant.out c.in-Ok.ensures.bytes;
}

use Rattle.std.proofs.Common.{length-set, ◌∙◌, arith}
use Rattle.gp_derivation.proofs.Changes.{next_out}
use Rattle.gp_derivation.proofs.table.take_out.Goals as goal

pub loop-image-preserved : goal.loop-image-preserved
loop-image-preserved c = record {
  items = rw (c.number.ensures, c.image-item.is) (next_out c.args.was.now c.loop-image.image-index _ c.loop-image.today.items _ (omega arith) c.loop-image.invariant.items);
  same = length-set c.loop-image.today.items _ _ ∙ c.loop-image.invariant.same;
  len = c.loop-image.invariant.len;
  room = c.loop-image.invariant.room;
}

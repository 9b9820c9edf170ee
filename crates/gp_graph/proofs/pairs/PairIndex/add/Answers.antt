use Rattle.std.proofs.Common.{length, sym, ◌∙◌}
use Rattle.gp_graph.proofs.Buckets.{index_room_but, room_of}
use Rattle.gp_graph.proofs.pairs.PairIndex.add.Goals as goal

pub enter-requires-clause-others : goal.enter-requires-clause-others
enter-requires-clause-others c some = (
  room_of c.make_room.result (length c.args.edges.now) (length c.make_room.new.pairs.items) (sym c.is_err.ensures.value ∙ c.if-is_err.false) c.make_room.ensures.ok,
  index_room_but c.args.self.now.buckets.items c.args.self.now.pairs.items c.make_room.new.pairs.items c.args.edges.now c.args.e c.make_room.ensures.same (c.requires.others some),
)

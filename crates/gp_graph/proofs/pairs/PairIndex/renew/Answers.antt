use Rattle.std.proofs.Common.{◌<◌, List, length, sym, subst, arith}
use Rattle.gp_graph.specs.inside.Pairs.{Indexes}
use Rattle.gp_graph.specs.declared.slots.Ring.{Ring}
use Rattle.gp_graph.proofs.Buckets.{index_room}
use Rattle.gp_graph.proofs.pairs.PairIndex.renew.Goals as goal

pub returns-then-is_err : goal.returns-then-is_err
returns-then-is_err c some =
    let i = c.requires some in (
      omega (arith, i.0, c.make_room.ensures.size),
      index_room c.args.self.now.buckets.items c.args.self.now.pairs.items c.make_room.new.pairs.items c.args.edges.now c.make_room.ensures.same i.1,
    )

pub returns-else-renew : goal.returns-else-renew
returns-else-renew c some =
    let same = c.renew.ensures.refused c.if-renew.false in
    let i = c.requires (subst (λ (xs : List Ring). 0 < length xs) same some) in (
      omega (arith, i.0, c.make_room.ensures.size),
      subst (λ xs. Indexes xs c.make_room.new.pairs.items c.args.edges.now) (sym same)
          (index_room c.args.self.now.buckets.items c.args.self.now.pairs.items c.make_room.new.pairs.items c.args.edges.now c.make_room.ensures.same i.1),
    )

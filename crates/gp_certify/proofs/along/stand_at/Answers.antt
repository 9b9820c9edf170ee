use Rattle.std.proofs.Common.{map, length, arith}
use Rattle.gp_syntax.specs.Tree.{rule_of_tree, item_of}
use Rattle.gp_certify.proofs.Walks.{item_there, may_at, stands_more}
use Rattle.gp_certify.proofs.along.stand_at.Goals as goal

pub make-requires : goal.make-requires
make-requires c =
    let e = item_there c.args.items.now c.items.standing.place c.index-items-standing.result (omega (arith, c.items-test.true, c.requires.place)) c.index-items-standing.is in
    may_at (map rule_of_tree c.args.rules.now) c.args.host.now.graph (map item_of c.args.items.now) (length c.args.items.now) c.items.standing.place (item_of c.index-items-standing.result) c.items.standing.trail c.requires.goes
    (omega (arith, c.items-test.true, c.requires.place)) e c.items.invariant.1.trail

pub items-preserved : goal.items-preserved
items-preserved c =
    let e = item_there c.args.items.now c.items.standing.place c.index-items-standing.result (omega (arith, c.items-test.true, c.requires.place)) c.index-items-standing.is in (
      omega (arith, c.items-test.true),
      stands_more (map rule_of_tree c.args.rules.now) c.args.host.now.graph (map item_of c.args.items.now) c.items.standing.place (item_of c.index-items-standing.result) c.items.standing.trail c.make.new.trail e c.items.invariant.1.trail c.in_ok-make.ensures.made,
    )

use Rattle.std.proofs.Common.{map, take, subst, sym, arith}
use Rattle.gp_syntax.specs.Tree.{rule_of_tree, item_of}
use Rattle.gp_derivation.specs.inside.Standing.{StandsIn, Follows}
use Rattle.gp_derivation.proofs.Upgraded.{as_high, one_more, is_upgrade, breaks}
use Rattle.gp_derivation.proofs.items.upgrade.Goals as goal

pub follow-requires : goal.follow-requires
follow-requires c = as_high (map rule_of_tree c.args.rules.now) c.args.host.graph (map item_of (take c.loop-n.n c.args.items.now)) c.loop-n.replay c.loop-n.invariant

pub loop-n-preserved : goal.loop-n-preserved
loop-n-preserved c =
    let rules = map rule_of_tree c.args.rules.now in
    let goes_on = subst (Follows rules (item_of c.index-items-n.result) c.loop-n.replay c.follow.new.self) c.if-not-branch.false c.in_ok-follow.ensures.follows in
    subst (λ s. StandsIn rules c.args.host.graph s c.follow.new.self) (sym (one_more c.args.items.now c.loop-n.n c.index-items-n.result (omega arith) c.index-items-n.is))
    (goes_on c.args.host.graph (map item_of (take c.loop-n.n c.args.items.now)) c.loop-n.invariant)

pub returns-then-not-branch-clause-fault : goal.returns-then-not-branch-clause-fault
returns-then-not-branch-clause-fault c =
    let rules = map rule_of_tree c.args.rules.now in
    let stops = subst (Follows rules (item_of c.index-items-n.result) c.loop-n.replay c.follow.new.self) c.if-not-branch.true c.in_ok-follow.ensures.follows in
    breaks rules c.args.host.graph c.args.items.now c.loop-n.n c.index-items-n.result c.loop-n.replay (omega arith) c.index-items-n.is c.loop-n.invariant
    (stops c.args.host.graph (map item_of (take c.loop-n.n c.args.items.now)) c.loop-n.invariant)

pub returns-clause-items : goal.returns-clause-items
returns-clause-items c = rw c.into_items.ensures (is_upgrade (map rule_of_tree c.args.rules.now) c.args.host.graph c.args.items.now c.loop-n.n c.loop-n.replay (omega arith) c.loop-n.invariant)
